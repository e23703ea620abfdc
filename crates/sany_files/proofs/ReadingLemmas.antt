-- Files that are read one after another.
use Rattle.std.proofs.Common.{◌≡◌, ℕ, suc, zero, ◌+◌, ◌-◌, ◌<◌, ◌≤◌, ◌^◌, min, List, [], ◌∷◌, ◌++◌, length, take, drop, get_or, Option, Some, None, IfSome, refl, sym, ap, ◌∙◌, arith, add-one, subst}
use Rattle.std.specs.Option.{option_map}
use Rattle.std.proofs.lemmas.List.{take_more, take-append-drop, length-take-le}
use Rattle.std.proofs.lemmas.List.Elements.{filter_map-append}
use Rattle.std.proofs.lemmas.List.Sums.{sum_by-append}
use Rattle.std.proofs.lemmas.Bool.{lt-ltb}
use Rattle.tool_io.specs.Folder.{Told, after_call, read_at}
use Rattle.family_facts.specs.declared.verdict.File.{File}
use Rattle.file_names.specs.Files.{MOST_FILE_BYTES, file_of, module_of_file, modules_of_file, modules_of_listing}
use Rattle.sany_files.specs.Calls.{after_calls, read_len}
use Rattle.sany_files.specs.Files.{byte_count, reads, with_read, MOST_BYTES}
use Rattle.sany_files.specs.Reading.{within}

after_calls-suc : (i : ℕ) (t : Told) → after_calls (suc i) t ≡ after_call (after_calls i t)
after_calls-suc zero t = refl
after_calls-suc (suc i) t = after_calls-suc i (after_call t)

-- one more call
pub told-more : (before between after : Option Told) (i : ℕ) → between ≡ option_map (λ t. after_calls i t) before → after ≡ option_map after_call between → after ≡ option_map (λ t. after_calls (i + 1) t) before
told-more None between after i isbetween isafter = isafter ∙ ap (λ o. option_map after_call o) isbetween
told-more (Some t) between after i isbetween isafter =
    isafter ∙ (ap (λ o. option_map after_call o) isbetween ∙ ap (λ x. Some x) (sym (after_calls-suc i t) ∙ ap (λ n. after_calls n t) (sym (add-one i))))

pub with_read-append : (name : List ℕ) (bytes : Option (List ℕ)) (fs gs : List File) → with_read name bytes (fs ++ gs) ≡ with_read name bytes fs ++ gs
with_read-append name None fs gs = refl
with_read-append name (Some bytes) fs gs = refl

reads-append : (t : Told) (path : List ℕ) (xs ys : List (List ℕ)) → reads t path (xs ++ ys) ≡ reads t path xs ++ reads (after_calls (length xs) t) path ys
reads-append t path [] ys = refl
reads-append t path (x ∷ xs) ys =
    ap (λ fs. with_read x (read_at (after_call t) path (file_of x) MOST_FILE_BYTES) fs) (reads-append (after_call t) path xs ys)
    ∙ with_read-append x (read_at (after_call t) path (file_of x) MOST_FILE_BYTES) (reads (after_call t) path xs) (reads (after_calls (length xs) (after_call t)) path ys)

reads-one : (t : Told) (path : List ℕ) (names : List (List ℕ)) (i : ℕ) (d : List ℕ) → i < length names →
    reads t path (take (i + 1) names) ≡ reads t path (take i names) ++ with_read (get_or names i d) (read_at (after_call (after_calls i t)) path (file_of (get_or names i d)) MOST_FILE_BYTES) []
reads-one t path names i d lt =
    let count : length (take i names) ≡ i = length-take-le i names (omega arith) in
    ap (λ ns. reads t path ns) (take_more names i d lt)
    ∙ (reads-append t path (take i names) (get_or names i d ∷ [])
    ∙ ap (λ n. reads t path (take i names) ++ with_read (get_or names i d) (read_at (after_call (after_calls n t)) path (file_of (get_or names i d)) MOST_FILE_BYTES) []) count)

-- one more read
pub reads-more : (before between after : Option Told) (path : List ℕ) (names : List (List ℕ)) (i : ℕ) (d name : List ℕ) (bytes : Option (List ℕ)) (files files' : List File) →
    i < length names → name ≡ get_or names i d → between ≡ option_map (λ t. after_calls i t) before → after ≡ option_map after_call between →
    IfSome before (λ t. files ≡ reads t path (take i names)) → IfSome after (λ t. bytes ≡ read_at t path (file_of name) MOST_FILE_BYTES) → files' ≡ files ++ with_read name bytes [] →
    IfSome before (λ t. files' ≡ reads t path (take (i + 1) names))
reads-more None between after path names i d name bytes files files' lt isname isbetween isafter inv isbytes isfiles = tt
reads-more (Some t) between after path names i d name bytes files files' lt isname isbetween isafter inv isbytes isfiles =
    let now : after ≡ Some (after_call (after_calls i t)) = isafter ∙ ap (λ o. option_map after_call o) isbetween in
    let read : bytes ≡ read_at (after_call (after_calls i t)) path (file_of name) MOST_FILE_BYTES = subst (λ o. IfSome o (λ u. bytes ≡ read_at u path (file_of name) MOST_FILE_BYTES)) now isbytes in
    isfiles
    ∙ (ap (λ f. f ++ with_read name bytes []) inv
    ∙ (ap (λ b. reads t path (take i names) ++ with_read name b []) read
    ∙ (ap (λ n. reads t path (take i names) ++ with_read n (read_at (after_call (after_calls i t)) path (file_of n) MOST_FILE_BYTES) []) isname ∙ sym (reads-one t path names i d lt))))

-- the bytes of one more file
pub count-read : (name : List ℕ) (bytes : Option (List ℕ)) → byte_count (with_read name bytes []) ≡ read_len bytes
count-read name None = refl
count-read name (Some bytes) = omega arith

pub count-more : (files files' : List File) (name : List ℕ) (bytes : Option (List ℕ)) (total total' : ℕ) → files' ≡ files ++ with_read name bytes [] → total ≡ byte_count files →
    total' ≡ min (total + read_len bytes) (2 ^ 64 - 1) → total' ≤ MOST_BYTES → total' ≡ byte_count files'
count-more files files' name bytes total total' isfiles istotal istotal' small =
    let exact : total' ≡ total + read_len bytes = omega arith in
    exact
    ∙ (ap (λ n. n + read_len bytes) istotal
    ∙ (ap (λ n. byte_count files + n) (sym (count-read name bytes))
    ∙ (sym (sum_by-append (λ (f : File). length f.bytes) files (with_read name bytes [])) ∙ ap (λ f. byte_count f) (sym isfiles))))

within-none : (files : List File) → MOST_BYTES < byte_count files → None ≡ within files
within-none files over = rw (lt-ltb MOST_BYTES (byte_count files) over) refl

-- too many bytes
pub reads-over : (before between after : Option Told) (path : List ℕ) (names : List (List ℕ)) (i : ℕ) (d name : List ℕ) (bytes : Option (List ℕ)) (files : List File) (total total' : ℕ) →
    i < length names → name ≡ get_or names i d → between ≡ option_map (λ t. after_calls i t) before → after ≡ option_map after_call between →
    IfSome before (λ t. files ≡ reads t path (take i names)) → IfSome after (λ t. bytes ≡ read_at t path (file_of name) MOST_FILE_BYTES) → total ≡ byte_count files →
    total' ≡ min (total + read_len bytes) (2 ^ 64 - 1) → MOST_BYTES < total' → IfSome before (λ t. None ≡ within (reads t path names))
reads-over None between after path names i d name bytes files total total' lt isname isbetween isafter inv isbytes istotal istotal' over = tt
reads-over (Some t) between after path names i d name bytes files total total' lt isname isbetween isafter inv isbytes istotal istotal' over =
    let front : files ++ with_read name bytes [] ≡ reads t path (take (i + 1) names) =
    reads-more (Some t) between after path names i d name bytes files (files ++ with_read name bytes []) lt isname isbetween isafter inv isbytes refl in
    let whole : reads t path names ≡ reads t path (take (i + 1) names) ++ reads (after_calls (length (take (i + 1) names)) t) path (drop (i + 1) names) =
    ap (λ ns. reads t path ns) (sym (take-append-drop (i + 1) names)) ∙ reads-append t path (take (i + 1) names) (drop (i + 1) names) in
    let counted : byte_count (reads t path names) ≡ byte_count (files ++ with_read name bytes []) + byte_count (reads (after_calls (length (take (i + 1) names)) t) path (drop (i + 1) names)) =
    ap (λ f. byte_count f) whole
    ∙ (sum_by-append (λ (f : File). length f.bytes) (reads t path (take (i + 1) names)) (reads (after_calls (length (take (i + 1) names)) t) path (drop (i + 1) names))
    ∙ ap (λ f. byte_count f + byte_count (reads (after_calls (length (take (i + 1) names)) t) path (drop (i + 1) names))) (sym front)) in
    let own : byte_count (files ++ with_read name bytes []) ≡ byte_count files + read_len bytes =
    sum_by-append (λ (f : File). length f.bytes) files (with_read name bytes []) ∙ ap (λ n. byte_count files + n) (count-read name bytes) in
    within-none (reads t path names) (omega (arith, counted, own, istotal, istotal', over))
