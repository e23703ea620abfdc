-- The errors that are answered, of JSON-RPC 2.0 and LSP 3.17.
use Rattle.std.specs.Prelude.{ℕ, ℤ, negsuc, if◌then◌else◌, List, [], codes}
use Rattle.std.specs.Ordering.{int_eq}

-- -32700: the content is no JSON
abbrev pub parse_error : ℤ
parse_error = negsuc 32699

-- -32600: the JSON is no message, or the request has no place here
abbrev pub invalid_request : ℤ
invalid_request = negsuc 32599

-- -32601: no request has the method
abbrev pub method_not_found : ℤ
method_not_found = negsuc 32600

-- -32602: a parameter is missing or of another type
abbrev pub invalid_params : ℤ
invalid_params = negsuc 32601

-- -32002: a request before `initialize`
abbrev pub server_not_initialized : ℤ
server_not_initialized = negsuc 32001

-- the text of an error
abbrev pub error_text : ℤ → List ℕ
error_text code =
    if int_eq code parse_error then codes "parse error" else (if int_eq code invalid_request then codes "invalid request" else (if int_eq code method_not_found then codes "method not found" else (if int_eq code invalid_params then codes "invalid params" else (if int_eq code server_not_initialized then codes "server not initialized" else []))))
