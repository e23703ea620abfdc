-- How many calls of a folder are made.
use Rattle.std.proofs.Common.{◌≡◌, ℕ, suc, zero, ◌+◌, ◌-◌, ◌<◌, ◌≤◌, ◌^◌, min, List, [], ◌∷◌, ◌++◌, length, take, get_or, Option, Some, None, Result, Ok, Err, Bool, true, false, IfSome, OnErr, if◌then◌else◌, refl, sym, ap, ◌∙◌, arith, add-one, subst}
use Rattle.std.specs.Option.{option_map}
use Rattle.std.proofs.Math.Seq.{take-length}
use Rattle.std.proofs.lemmas.List.Sums.{sum_by-append}
use Rattle.std.proofs.lemmas.Bool.{le-ltb, lt-ltb}
use Rattle.tool_io.specs.Folder.{Told, after_call, names_at, read_at}
use Rattle.family_facts.specs.declared.verdict.File.{File}
use Rattle.file_names.specs.Files.{MOST_FILE_BYTES, file_of, modules_of_listing}
use Rattle.sany_files.specs.Calls.{IsLeftAfter}
use Rattle.sany_files.specs.Calls.{after_calls, calls_made, calls_of_folder, calls_of_request, next_len, read_len, reads_made, reads_of_listing}
use Rattle.sany_files.specs.Files.{byte_count, module_names, reads, with_read, MOST_BYTES, MOST_MODULES}
use Rattle.sany_files.specs.Reading.{after_folder, after_reads}
use Rattle.sany_files.proofs.ReadingLemmas.{count-read, reads-more, told-more, with_read-append}

pub on-err : {T E : Type 0} (r : Result T E) (P : Type 0) → P → OnErr r P
on-err (Ok x) P p = tt
on-err (Err e) P p = p

pub on-err-map : {T E : Type 0} (r : Result T E) (P Q : Type 0) → (P → Q) → OnErr r P → OnErr r Q
on-err-map (Ok x) P Q follows p = tt
on-err-map (Err e) P Q follows p = follows p

-- ---- the reads

-- the bytes of a read and of those behind it
count-cons : (name : List ℕ) (bytes : Option (List ℕ)) (files : List File) → byte_count (with_read name bytes files) ≡ read_len bytes + byte_count files
count-cons name bytes files =
    ap (λ f. byte_count f) (with_read-append name bytes [] files)
    ∙ (sum_by-append (λ (f : File). length f.bytes) (with_read name bytes []) files ∙ ap (λ n. n + byte_count files) (count-read name bytes))

one-or-more : (b : Bool) (n : ℕ) → 1 ≤ (if b then 1 else suc n)
one-or-more true n = omega arith
one-or-more false n = omega arith

module _ (bytes : ℕ) (t : Told) (path name : List ℕ) (names : List (List ℕ)) where
  -- the bytes pass the limit with the next read
  made-last : MOST_BYTES < bytes + next_len t path name → reads_made bytes t path (name ∷ names) ≡ 1
  made-last over = rw (lt-ltb MOST_BYTES (bytes + next_len t path name) over) refl

  -- they do not
  made-next : bytes + next_len t path name ≤ MOST_BYTES → reads_made bytes t path (name ∷ names) ≡ suc (reads_made (bytes + next_len t path name) (after_call t) path names)
  made-next small = rw (le-ltb MOST_BYTES (bytes + next_len t path name) small) refl

  counted : (some : List (List ℕ)) → byte_count (reads t path (name ∷ some)) ≡ next_len t path name + byte_count (reads (after_call t) path some)
  counted some = count-cons name (read_at (after_call t) path (file_of name) MOST_FILE_BYTES) (reads (after_call t) path some)

-- all are read where the limit is not passed
made-all : (bytes : ℕ) (t : Told) (path : List ℕ) (names : List (List ℕ)) → bytes + byte_count (reads t path names) ≤ MOST_BYTES → reads_made bytes t path names ≡ length names
made-all bytes t path [] small = refl
made-all bytes t path (name ∷ names) small =
    let count = counted bytes t path name names names in
    made-next bytes t path name names (omega (arith, count, small))
    ∙ ap (λ n. suc n) (made-all (bytes + next_len t path name) (after_call t) path names (omega (arith, count, small)))

-- the first read that passes the limit is the last
made-over : (bytes : ℕ) (t : Told) (path : List ℕ) (names : List (List ℕ)) (i : ℕ) → i < length names → bytes + byte_count (reads t path (take i names)) ≤ MOST_BYTES →
    MOST_BYTES < bytes + byte_count (reads t path (take (suc i) names)) → reads_made bytes t path names ≡ suc i
made-over bytes t path [] i lt small over = absurd (omega (arith, lt))
made-over bytes t path (name ∷ names) zero lt small over =
    let count = counted bytes t path name names [] in
    made-last bytes t path name names (omega (arith, count, over))
made-over bytes t path (name ∷ names) (suc i) lt small over =
    let few = counted bytes t path name names (take i names) in
    let more = counted bytes t path name names (take (suc i) names) in
    made-next bytes t path name names (omega (arith, few, small))
    ∙ ap (λ n. suc n) (made-over (bytes + next_len t path name) (after_call t) path names i (omega (arith, lt)) (omega (arith, few, small)) (omega (arith, more, over)))

-- a read is made where the ones before it do not pass the limit
made-more : (bytes : ℕ) (t : Told) (path : List ℕ) (names : List (List ℕ)) (i : ℕ) → i < length names → bytes + byte_count (reads t path (take i names)) ≤ MOST_BYTES → suc i ≤ reads_made bytes t path names
made-more bytes t path [] i lt small = absurd (omega (arith, lt))
made-more bytes t path (name ∷ names) zero lt small = one-or-more _ _
made-more bytes t path (name ∷ names) (suc i) lt small =
    let few = counted bytes t path name names (take i names) in
    let next = made-next bytes t path name names (omega (arith, few, small)) in
    let rest = made-more (bytes + next_len t path name) (after_call t) path names i (omega (arith, lt)) (omega (arith, few, small)) in
    omega (arith, next, rest)

-- ---- what the folder holds after reads

after_calls-plus : (i n : ℕ) (t : Told) → after_calls n (after_calls i t) ≡ after_calls (i + n) t
after_calls-plus zero n t = let e : n ≡ 0 + n = omega arith in ap (λ m. after_calls m t) e
after_calls-plus (suc i) n t = let e : suc (i + n) ≡ suc i + n = omega arith in after_calls-plus i n (after_call t) ∙ ap (λ m. after_calls m t) e

-- a call
pub part-call : (between after : Option Told) → after ≡ option_map after_call between → IfSome between (λ t. IsLeftAfter 0 1 t after)
part-call None after isafter = tt
part-call (Some t) after isafter = record { calls = 1; many = omega arith; few = omega arith; left = isafter }

-- a read behind some
pub part-read : (before between after : Option Told) (path : List ℕ) (names : List (List ℕ)) (i : ℕ) (files : List File) (total : ℕ) → i < length names →
    between ≡ option_map (λ t. after_calls i t) before → IfSome between (λ t. IsLeftAfter 0 1 t after) → IfSome before (λ t. files ≡ reads t path (take i names)) → total ≡ byte_count files → total ≤ MOST_BYTES →
    IfSome before (λ t. IsLeftAfter 0 (reads_made 0 t path names) t after)
part-read None between after path names i files total lt isbetween part inv istotal small = tt
part-read (Some t) between after path names i files total lt isbetween part inv istotal small =
    let is : IsLeftAfter 0 1 (after_calls i t) after = subst (λ o. IfSome o (λ u. IsLeftAfter 0 1 u after)) isbetween part in
    let few : byte_count (reads t path (take i names)) ≡ total = sym (istotal ∙ ap (λ f. byte_count f) inv) in
    let more = made-more 0 t path names i lt (omega (arith, few, small)) in
    let last : is.calls ≤ 1 = is.few in
    record { calls = i + is.calls; many = omega arith; few = omega (arith, more, last); left = is.left ∙ ap (λ u. Some u) (after_calls-plus i is.calls t) }

-- too many bytes
pub told-over : (before between after : Option Told) (path : List ℕ) (names : List (List ℕ)) (i : ℕ) (d name : List ℕ) (bytes : Option (List ℕ)) (files : List File) (total total' : ℕ) →
    i < length names → name ≡ get_or names i d → between ≡ option_map (λ t. after_calls i t) before → after ≡ option_map after_call between →
    IfSome before (λ t. files ≡ reads t path (take i names)) → IfSome after (λ t. bytes ≡ read_at t path (file_of name) MOST_FILE_BYTES) → total ≡ byte_count files → total ≤ MOST_BYTES →
    total' ≡ min (total + read_len bytes) (2 ^ 64 - 1) → MOST_BYTES < total' → after ≡ option_map (after_reads path names) before
told-over None between after path names i d name bytes files total total' lt isname isbetween isafter inv isbytes istotal small istotal' over = isafter ∙ ap (λ o. option_map after_call o) isbetween
told-over (Some t) between after path names i d name bytes files total total' lt isname isbetween isafter inv isbytes istotal small istotal' over =
    let now : after ≡ Some (after_calls (i + 1) t) = told-more (Some t) between after i isbetween isafter in
    let front : files ++ with_read name bytes [] ≡ reads t path (take (i + 1) names) =
    reads-more (Some t) between after path names i d name bytes files (files ++ with_read name bytes []) lt isname isbetween isafter inv isbytes refl in
    let few : byte_count (reads t path (take i names)) ≡ total = sym (istotal ∙ ap (λ f. byte_count f) inv) in
    let more : byte_count (reads t path (take (suc i) names)) ≡ byte_count files + read_len bytes =
    ap (λ n. byte_count (reads t path (take n names))) (sym (add-one i))
    ∙ (ap (λ f. byte_count f) (sym front)
    ∙ (sum_by-append (λ (f : File). length f.bytes) files (with_read name bytes []) ∙ ap (λ n. byte_count files + n) (count-read name bytes))) in
    let made : reads_made 0 t path names ≡ suc i = made-over 0 t path names i lt (omega (arith, few, small)) (omega (arith, more, istotal, istotal', over)) in
    now ∙ ap (λ n. Some (after_calls n t)) (add-one i ∙ sym made)

-- all that are to be read
pub told-all : (before after : Option Told) (path : List ℕ) (names : List (List ℕ)) (count : ℕ) (files : List File) (total : ℕ) → count ≡ length names → after ≡ option_map (λ t. after_calls count t) before →
    IfSome before (λ t. files ≡ reads t path (take count names)) → total ≡ byte_count files → total ≤ MOST_BYTES → after ≡ option_map (after_reads path names) before
told-all None after path names count files total iscount isafter inv istotal small = isafter
told-all (Some t) after path names count files total iscount isafter inv istotal small =
    let whole : take count names ≡ names = ap (λ n. take n names) iscount ∙ take-length names in
    let sum : byte_count (reads t path names) ≡ total = ap (λ ns. byte_count (reads t path ns)) (sym whole) ∙ sym (istotal ∙ ap (λ f. byte_count f) inv) in
    let made : reads_made 0 t path names ≡ length names = made-all 0 t path names (omega (arith, sum, small)) in
    isafter ∙ ap (λ n. Some (after_calls n t)) (iscount ∙ sym made)

-- ---- what the folder holds after its listing

listing-few : (t : Told) (path : List ℕ) (names : List (List ℕ)) → length names ≤ MOST_MODULES → reads_of_listing t path names ≡ reads_made 0 t path names
listing-few t path names few = rw (le-ltb MOST_MODULES (length names) few) refl

module _ (t : Told) (after : Option Told) (path : List ℕ) (listed modules : List (List ℕ)) (isafter : after ≡ Some (after_call t)) (isnames : IfSome after (λ u. listed ≡ names_at u path))
    (ismodules : modules ≡ modules_of_listing listed) where
  are-listed : modules ≡ module_names (after_call t) path
  are-listed =
      let names : listed ≡ names_at (after_call t) path = subst (λ o. IfSome o (λ u. listed ≡ names_at u path)) isafter isnames in
      ismodules ∙ ap (λ ns. modules_of_listing ns) names

  calls-few : length modules ≤ MOST_MODULES → calls_of_folder t path ≡ suc (reads_made 0 (after_call t) path modules)
  calls-few few = ap (λ ns. suc (reads_of_listing (after_call t) path ns)) (sym are-listed) ∙ ap (λ n. suc n) (listing-few (after_call t) path modules few)

-- ---- where the calls end early

-- with a read
pub part-few : (before between after : Option Told) (path : List ℕ) (listed modules : List (List ℕ)) → between ≡ option_map after_call before → IfSome between (λ u. listed ≡ names_at u path) →
    modules ≡ modules_of_listing listed → length modules ≤ MOST_MODULES → IfSome between (λ u. IsLeftAfter 0 (reads_made 0 u path modules) u after) →
    IfSome before (λ t. IsLeftAfter 1 (calls_of_folder t path) t after)
part-few None between after path listed modules isbetween isnames ismodules few part = tt
part-few (Some t) between after path listed modules isbetween isnames ismodules few part =
    let is : IsLeftAfter 0 (reads_made 0 (after_call t) path modules) (after_call t) after =
    subst (λ o. IfSome o (λ u. IsLeftAfter 0 (reads_made 0 u path modules) u after)) isbetween part in
    let calls = calls-few t between path listed modules isbetween isnames ismodules few in
    let made : is.calls ≤ reads_made 0 (after_call t) path modules = is.few in
    record { calls = suc is.calls; many = omega arith; few = omega (arith, calls, made); left = is.left }

-- with the last call
pub part-whole : (before after : Option Told) (path : List ℕ) → after ≡ option_map (after_folder path) before → IfSome before (λ t. IsLeftAfter 1 (calls_of_folder t path) t after)
part-whole None after path isafter = tt
part-whole (Some t) after path isafter = record { calls = calls_of_folder t path; many = omega arith; few = omega arith; left = isafter }
