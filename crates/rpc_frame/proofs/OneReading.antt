-- Bytes have one reading: what waits has one answer, and a stream one list of frames.
use Rattle.std.proofs.Common.{◌≡◌, ◌↔◌, ℕ, ◌+◌, ◌^◌, ◌<◌, ◌≤◌, List, [], ◌∷◌, ◌++◌, length, take, drop, Some, ◌⊎◌, inl, inr, refl, sym, ap, ◌∙◌, subst, ⊎_elim, suc, append_assoc, length-append, arith}
use Rattle.std.proofs.lemmas.List.{append-nil, take-append-drop, take-append-le}
use Rattle.std.proofs.lemmas.Bool.{cases_order}
use Rattle.rpc_frame.specs.declared.framer.FrameNext.{FrameNext}
use Rattle.rpc_frame.specs.declared.framer.FrameNext.TheVariants.{Message, NotYet, BadHeader, TooLong}
use Rattle.rpc_frame.specs.declared.header.Header.{Header}
use Rattle.rpc_frame.specs.HeaderMachine.{start, run}
use Rattle.rpc_frame.specs.Frames.{IsHeader, BeginsHeader, IsFrame, IsPartOfHeader, LacksContent, IsUnfinished, IsTooLong, IsBad, HasFrames, HasNoFrame, HasFields, header_of, EndsInside}
use Rattle.rpc_frame.specs.Framing.{Held, IsNext, HasGiven}
use Rattle.rpc_frame.proofs.Runs.{IsWhole}
use Rattle.rpc_frame.proofs.Headers.{read_header, whole_is_all, whole_says}
use Rattle.rpc_frame.proofs.Fronts.{two_splits}

-- one header and what stands behind it
record Same (header more : List ℕ) (said : ℕ) (header' more' : List ℕ) (said' : ℕ) : Type 0 where
  same_header : header ≡ header'
  same_more : more ≡ more'
  same_said : said ≡ said'

longer_is_same : (header more : List ℕ) (n : ℕ) (header' more' rest : List ℕ) (n' : ℕ) → IsHeader header n → IsHeader header' n' → header' ≡ header ++ rest → more ≡ rest ++ more' → Same header more n header' more' n'
longer_is_same header more n header' more' rest n' is is' e f =
    let r = read_header header' n' is' in
    let w = whole_is_all header rest n r.0 is (ap (run start) (sym e) ∙ r.1) in
    record {
      same_header = sym (e ∙ ap (λ t. header ++ t) w.0 ∙ append-nil header);
      same_more = f ∙ ap (λ t. t ++ more') w.0;
      same_said = whole_says r.0 n n' w.1 r.2;
    }

one_header : (header more : List ℕ) (n : ℕ) (header' more' : List ℕ) (n' : ℕ) → header ++ more ≡ header' ++ more' → IsHeader header n → IsHeader header' n' → Same header more n header' more' n'
one_header header more n header' more' n' e is is' =
    ⊎_elim (λ p. longer_is_same header more n header' more' p.0 n' is is' p.1 p.2)
    (λ p.
    let s = longer_is_same header' more' n' header more p.0 n is' is p.1 p.2 in
    record { same_header = sym s.same_header; same_more = sym s.same_more; same_said = sym s.same_said }) (two_splits header more header' more' e)

no_rest : {A : Type 0} (a b e : List A) → b ≡ a ++ e → length a ≡ length b → e ≡ []
no_rest a b [] f l = refl
no_rest a b (x ∷ e) f l = absurd (omega (arith, ap length f, length-append a (x ∷ e), l))

same_fronts : (a b c d : List ℕ) → a ++ b ≡ c ++ d → length a ≡ length c → (a ≡ c) × (b ≡ d)
same_fronts a b c d e l =
    ⊎_elim
    (λ p.
    let none = no_rest a c p.0 p.1 l in
    (sym (p.1 ∙ ap (λ t. a ++ t) none ∙ append-nil a), p.2 ∙ ap (λ t. t ++ d) none))
    (λ p.
    let none = no_rest c a p.0 p.1 (sym l) in
    (p.1 ∙ ap (λ t. c ++ t) none ∙ append-nil c, sym (p.2 ∙ ap (λ t. t ++ b) none))) (two_splits a b c d e)

-- a whole header at the front, and what stands behind it
record Headed (bytes : List ℕ) : Type 0 where
  header : List ℕ
  more : List ℕ
  said : ℕ
  written : bytes ≡ header ++ more
  says : IsHeader header said

one_head : (bytes : List ℕ) (a b : Headed bytes) → Same a.header a.more a.said b.header b.more b.said
one_head bytes a b =
    one_header a.header a.more a.said b.header b.more b.said (sym a.written ∙ b.written) a.says b.says

abbrev headed_frame : (bytes frame more content : List ℕ) → bytes ≡ frame ++ more → IsFrame frame content → Headed bytes
headed_frame bytes frame more content e f =
    record {
      header = f.header;
      more = content ++ more;
      said = length content;
      written = e ∙ ap (λ t. t ++ more) f.written ∙ append_assoc f.header content more;
      says = f.says;
    }

abbrev headed_lacking : (bytes : List ℕ) → LacksContent bytes → Headed bytes
headed_lacking bytes l =
    record { header = l.header; more = l.content; said = l.said; written = l.written; says = l.says }

abbrev headed_long : (bytes : List ℕ) (said : ℕ) → IsTooLong bytes said → Headed bytes
headed_long bytes said l =
    record { header = l.header; more = l.more; said = said; written = l.written; says = l.says }

-- nothing is no header
nothing_headed : (header : List ℕ) (n : ℕ) → header ≡ [] → IsHeader header n → ⊥
nothing_headed header n e is =
    let r = read_header header n is in start_open r.0 n (sym r.1 ∙ ap (run start) e) r.2
  where
    start_open : (h : Header) (n : ℕ) → Some h ≡ Some start → IsWhole h n → ⊥
    start_open h n e w = cc

empty_unheaded : (bytes : List ℕ) → bytes ≡ [] → Headed bytes → ⊥
empty_unheaded bytes e h = nothing_headed h.header h.said (front_empty h.header h.more (sym h.written ∙ e)) h.says
  where
    front_empty : (a b : List ℕ) → a ++ b ≡ [] → a ≡ []
    front_empty [] b e = refl
    front_empty (x ∷ a) b e = cc

part_unheaded : (bytes : List ℕ) → IsPartOfHeader bytes → Headed bytes → ⊥
part_unheaded bytes p h =
    let r = read_header (bytes ++ p.more) p.said p.header in
    let w = whole_is_all h.header (h.more ++ p.more) h.said r.0 h.says (ap (run start) (sym (append_assoc h.header h.more p.more) ∙ ap (λ t. t ++ p.more) (sym h.written)) ∙ r.1) in
    omega (arith, ap length w.0, length-append h.more p.more, p.lacking)

bad_unheaded : (bytes : List ℕ) (k : ℕ) → IsBad bytes k → Headed bytes → ⊥
bad_unheaded bytes k b h = b.none h.header h.more h.said h.written h.says

part_not_bad : (bytes : List ℕ) (k : ℕ) → IsPartOfHeader bytes → IsBad bytes k → ⊥
part_not_bad bytes k p b =
    let H : List ℕ → Type 0 = λ t. IsHeader t p.said in
    let e = ap (λ t. t ++ p.more) (sym (take-append-drop (k + 1) bytes)) ∙ append_assoc (take (k + 1) bytes) (drop (k + 1) bytes) p.more in
    b.bad (drop (k + 1) bytes ++ p.more, p.said, subst H e p.header)

one_bad_place : (bytes : List ℕ) (j k : ℕ) → IsBad bytes j → IsBad bytes k → j ≡ k
one_bad_place bytes j k a b =
    ⊎_elim (λ e. e) (⊎_elim (λ l. absurd (a.bad (b.least j l))) (λ l. absurd (b.bad (a.least k l)))) (cases_order j k)

one_frame : (frame more content frame' more' content' : List ℕ) → frame ++ more ≡ frame' ++ more' → IsFrame frame content → IsFrame frame' content' → (frame ≡ frame') × (more ≡ more') × (content ≡ content')
one_frame frame more content frame' more' content' e f g =
    let bytes = frame ++ more in
    let s = one_head bytes (headed_frame bytes frame more content refl f) (headed_frame bytes frame' more' content' e g) in
    let p = same_fronts content more content' more' s.same_more s.same_said in
    (f.written ∙ ap (λ t. t ++ content) s.same_header ∙ ap (λ t. g.header ++ t) p.0 ∙ sym g.written, p.1, p.0)

frame_not_lacking : (bytes frame more content : List ℕ) → bytes ≡ frame ++ more → IsFrame frame content → LacksContent bytes → ⊥
frame_not_lacking bytes frame more content e f l =
    let s = one_head bytes (headed_frame bytes frame more content e f) (headed_lacking bytes l) in
    omega (arith, s.same_said, ap length s.same_more, length-append content more, l.lacking)

frame_not_unfinished : (bytes frame more content : List ℕ) → bytes ≡ frame ++ more → IsFrame frame content → IsUnfinished bytes → ⊥
frame_not_unfinished bytes frame more content e f u =
    ⊎_elim (λ p. part_unheaded bytes p (headed_frame bytes frame more content e f)) (frame_not_lacking bytes frame more content e f) u

frame_not_long : (bytes frame more content : List ℕ) (said : ℕ) → bytes ≡ frame ++ more → IsFrame frame content → IsTooLong bytes said → ⊥
frame_not_long bytes frame more content said e f l =
    let s = one_head bytes (headed_frame bytes frame more content e f) (headed_long bytes said l) in
    omega (arith, s.same_said, f.fits, l.large)

unfinished_not_long : (bytes : List ℕ) (said : ℕ) → IsUnfinished bytes → IsTooLong bytes said → ⊥
unfinished_not_long bytes said u l =
    ⊎_elim (λ p. part_unheaded bytes p (headed_long bytes said l))
    (λ p.
    let s = one_head bytes (headed_lacking bytes p) (headed_long bytes said l) in
    omega (arith, s.same_said, p.fits, l.large)) u

unfinished_not_bad : (bytes : List ℕ) (k : ℕ) → IsUnfinished bytes → IsBad bytes k → ⊥
unfinished_not_bad bytes k u b =
    ⊎_elim (λ p. part_not_bad bytes k p b) (λ p. bad_unheaded bytes k b (headed_lacking bytes p)) u

pub unfinished_some : (bytes : List ℕ) → bytes ≡ [] → IsUnfinished bytes → ⊥
unfinished_some bytes e u =
    ⊎_elim (λ p. omega (arith, ap length e, p.some)) (λ p. empty_unheaded bytes e (headed_lacking bytes p)) u

abbrev held : ℕ → List ℕ → List ℕ → Held
held taken content waiting = record { taken = taken; content = content; waiting = waiting }

same_held : (x y : Held) → x.taken ≡ y.taken → x.content ≡ y.content → x.waiting ≡ y.waiting → x ≡ y
same_held x y t c w =
    ap (λ n. held n x.content x.waiting) t ∙ ap (λ l. held y.taken l x.waiting) c ∙ ap (held y.taken y.content) w

one_message : (old x y : Held) → IsNext old Message x → IsNext old Message y → x ≡ y
one_message old x y a b =
    let s = one_frame a.0 x.waiting x.content b.0 y.waiting y.content (sym a.1 ∙ b.1) a.2 b.2 in
    same_held x y (a.3 ∙ ap (λ f. old.taken + length f) s.0 ∙ sym b.3) s.2 s.1

not_yet_or : (old x y : Held) → IsNext old NotYet x → IsNext old Message y → ⊥
not_yet_or old x y a b =
    ⊎_elim (λ e. empty_unheaded old.waiting e (headed_frame old.waiting b.0 y.waiting y.content b.1 b.2))
    (λ u. frame_not_unfinished old.waiting b.0 y.waiting y.content b.1 b.2 u) a.1

message_or_bad : (old x y : Held) (place : ℕ) → IsNext old Message x → IsNext old (BadHeader place) y → ⊥
message_or_bad old x y place a b =
    bad_unheaded old.waiting b.1 b.2 (headed_frame old.waiting a.0 x.waiting x.content a.1 a.2)

message_or_long : (old x y : Held) (said : ℕ) → IsNext old Message x → IsNext old (TooLong said) y → ⊥
message_or_long old x y said a b = frame_not_long old.waiting a.0 x.waiting x.content said a.1 a.2 b.1

not_yet_or_bad : (old x y : Held) (place : ℕ) → IsNext old NotYet x → IsNext old (BadHeader place) y → ⊥
not_yet_or_bad old x y place a b =
    ⊎_elim (λ e. omega (arith, ap length e, b.2.within)) (λ u. unfinished_not_bad old.waiting b.1 u b.2) a.1

not_yet_or_long : (old x y : Held) (said : ℕ) → IsNext old NotYet x → IsNext old (TooLong said) y → ⊥
not_yet_or_long old x y said a b =
    ⊎_elim (λ e. empty_unheaded old.waiting e (headed_long old.waiting said b.1)) (λ u. unfinished_not_long old.waiting said u b.1) a.1

bad_or_long : (old x y : Held) (place said : ℕ) → IsNext old (BadHeader place) x → IsNext old (TooLong said) y → ⊥
bad_or_long old x y place said a b = bad_unheaded old.waiting a.1 a.2 (headed_long old.waiting said b.1)

-- what waits has one answer
pub one_answer : (old : Held) (a b : FrameNext) (x y : Held) → IsNext old a x → IsNext old b y → (a ≡ b) × (x ≡ y)
one_answer old Message Message x y p q = (refl, one_message old x y p q)
one_answer old Message NotYet x y p q = absurd (not_yet_or old y x q p)
one_answer old Message (BadHeader k) x y p q = absurd (message_or_bad old x y k p q)
one_answer old Message (TooLong n) x y p q = absurd (message_or_long old x y n p q)
one_answer old NotYet Message x y p q = absurd (not_yet_or old x y p q)
one_answer old NotYet NotYet x y p q = (refl, p.0 ∙ sym q.0)
one_answer old NotYet (BadHeader k) x y p q = absurd (not_yet_or_bad old x y k p q)
one_answer old NotYet (TooLong n) x y p q = absurd (not_yet_or_long old x y n p q)
one_answer old (BadHeader j) Message x y p q = absurd (message_or_bad old y x j q p)
one_answer old (BadHeader j) NotYet x y p q = absurd (not_yet_or_bad old y x j q p)
one_answer old (BadHeader j) (BadHeader k) x y p q =
    (ap BadHeader (p.3 ∙ ap (λ i. old.taken + i) (one_bad_place old.waiting p.1 q.1 p.2 q.2) ∙ sym q.3), p.0 ∙ sym q.0)
one_answer old (BadHeader j) (TooLong n) x y p q = absurd (bad_or_long old x y j n p q)
one_answer old (TooLong m) Message x y p q = absurd (message_or_long old y x m q p)
one_answer old (TooLong m) NotYet x y p q = absurd (not_yet_or_long old y x m q p)
one_answer old (TooLong m) (BadHeader k) x y p q = absurd (bad_or_long old y x k m q p)
one_answer old (TooLong m) (TooLong n) x y p q =
    let s = one_head old.waiting (headed_long old.waiting m p.1) (headed_long old.waiting n q.1) in
    (ap TooLong s.same_said, p.0 ∙ sym q.0)

-- what gets another answer begins with no frame
pub message_or_none : (old : Held) (a : FrameNext) (new : Held) → IsNext old a new → (a ≡ Message) ⊎ HasNoFrame old.waiting
message_or_none old Message new p = inl refl
message_or_none old NotYet new p =
    inr
    (λ frame more content e f.
    not_yet_or old new (held (old.taken + length frame) content more) p (frame, e, f, refl))
message_or_none old (BadHeader k) new p =
    inr
    (λ frame more content e f.
    message_or_bad old (held (old.taken + length frame) content more) new k (frame, e, f, refl) p)
message_or_none old (TooLong n) new p =
    inr
    (λ frame more content e f.
    message_or_long old (held (old.taken + length frame) content more) new n (frame, e, f, refl) p)

-- a stream has one list of frames
pub one_stream : (stream rest rest' : List ℕ) (contents contents' : List (List ℕ)) → HasFrames stream contents rest → HasNoFrame rest → HasFrames stream contents' rest' → HasNoFrame rest' → (contents ≡ contents') × (rest ≡ rest')
one_stream stream rest rest' [] [] h none h' none' = (refl, sym h ∙ h')
one_stream stream rest rest' [] (c' ∷ contents') h none h' none' = absurd (none h'.0 h'.1 c' (sym h ∙ h'.2) h'.3)
one_stream stream rest rest' (c ∷ contents) [] h none h' none' = absurd (none' h.0 h.1 c (sym h' ∙ h.2) h.3)
one_stream stream rest rest' (c ∷ contents) (c' ∷ contents') h none h' none' =
    let s = one_frame h.0 h.1 c h'.0 h'.1 c' (sym h.2 ∙ h'.2) h.3 h'.3 in
    let P : List ℕ → Type 0 = λ t. HasFrames t contents' rest' in
    let later = one_stream h.1 rest rest' contents contents' h.4 none (subst P (sym s.1) h'.4) none' in
    (ap (λ x. x ∷ contents) s.2 ∙ ap (λ l. c' ∷ l) later.0, later.1)

-- the stream goes on
pub frames_fed : (stream piece rest : List ℕ) (contents : List (List ℕ)) → HasFrames stream contents rest → HasFrames (stream ++ piece) contents (rest ++ piece)
frames_fed stream piece rest [] h = ap (λ t. t ++ piece) h
frames_fed stream piece rest (c ∷ contents) h =
    (h.0, h.1 ++ piece, ap (λ t. t ++ piece) h.2 ∙ append_assoc h.0 h.1 piece, h.3, frames_fed h.1 piece rest contents h.4)

-- one more frame
pub frames_taken : (stream rest frame more content : List ℕ) (contents : List (List ℕ)) → HasFrames stream contents rest → rest ≡ frame ++ more → IsFrame frame content → HasFrames stream (contents ++ content ∷ []) more
frames_taken stream rest frame more content [] h e f = (frame, more, h ∙ e, f, refl)
frames_taken stream rest frame more content (c ∷ contents) h e f =
    (h.0, h.1, h.2, h.3, frames_taken h.1 rest frame more content contents h.4 e f)

pub given_fed : (stream piece : List ℕ) (contents : List (List ℕ)) (old : Held) → HasGiven stream contents old → HasGiven (stream ++ piece) contents (record old { waiting = old.waiting ++ piece })
given_fed stream piece contents old g =
    record {
      frames = frames_fed stream piece old.waiting contents g.frames;
      counted = omega (arith, g.counted, length-append stream piece, length-append old.waiting piece);
    }

pub given_taken : (stream : List ℕ) (contents : List (List ℕ)) (old new : Held) → HasGiven stream contents old → IsNext old Message new → HasGiven stream (contents ++ new.content ∷ []) new
given_taken stream contents old new g p =
    record {
      frames = frames_taken stream old.waiting p.0 new.waiting new.content contents g.frames p.1 p.2;
      counted = omega (arith, g.counted, ap length p.1, length-append p.0 new.waiting, p.3);
    }

-- what is bad stays so, however the stream goes on
pub bad_stays : (bytes more : List ℕ) (k : ℕ) → IsBad bytes k → IsBad (bytes ++ more) k
bad_stays bytes more k b =
    record {
      within = omega (arith, b.within, length-append bytes more);
      none = λ header rest said e is.
          ⊎_elim (λ p. longer p.0 header rest said p.1 is)
          (λ p. b.none header p.0 said p.1 is)
          (two_splits bytes more header rest e);
      bad = λ q. b.bad (subst BeginsHeader (front k (omega (arith, b.within))) q);
      least = λ j l. subst BeginsHeader (sym (front j (omega (arith, b.within)))) (b.least j l);
    }
  where
    front : (j : ℕ) → j + 1 ≤ length bytes → take (j + 1) (bytes ++ more) ≡ take (j + 1) bytes
    front j l = take-append-le (j + 1) bytes more l

    longer : (extra header rest : List ℕ) (said : ℕ) → header ≡ bytes ++ extra → IsHeader header said → ⊥
    longer extra header rest said e is =
        let H : List ℕ → Type 0 = λ t. IsHeader t said in
        let w = ap (λ t. t ++ extra) (sym (take-append-drop (k + 1) bytes)) ∙ append_assoc (take (k + 1) bytes) (drop (k + 1) bytes) extra in
        b.bad (drop (k + 1) bytes ++ extra, said, subst H (e ∙ w) is)

-- and so is what is too long
pub too_long_stays : (bytes more : List ℕ) (said : ℕ) → IsTooLong bytes said → IsTooLong (bytes ++ more) said
too_long_stays bytes more said l =
    record {
      header = l.header;
      more = l.more ++ more;
      written = ap (λ t. t ++ more) l.written ∙ append_assoc l.header l.more more;
      says = l.says;
      large = l.large;
    }

-- behind a frame the rest ends as the whole does
pub inside_behind : (bytes frame more content : List ℕ) → bytes ≡ frame ++ more → IsFrame frame content → EndsInside bytes ↔ EndsInside more
inside_behind bytes frame more content e f =
    (λ i. behind i.0 i.1 i.2 i.3, λ i. (content ∷ i.0, i.1, (frame, more, e, f, i.2), i.3))
  where
    behind : (contents : List (List ℕ)) (rest : List ℕ) → HasFrames bytes contents rest → IsUnfinished rest → EndsInside more
    behind [] rest h u = absurd (frame_not_unfinished rest frame more content (sym h ∙ e) f u)
    behind (c ∷ contents) rest h u =
        let s = one_frame frame more content h.0 h.1 c (sym e ∙ h.2) f h.3 in
        let P : List ℕ → Type 0 = λ t. HasFrames t contents rest in
        (contents, rest, subst P (sym s.1) h.4, u)

pub inside_unfinished : (bytes : List ℕ) → IsUnfinished bytes → EndsInside bytes
inside_unfinished bytes u = ([], bytes, refl, u)

not_inside : (bytes : List ℕ) → HasNoFrame bytes → (IsUnfinished bytes → ⊥) → EndsInside bytes → ⊥
not_inside bytes none open_ i = at_contents i.0 i.1 i.2 i.3
  where
    at_contents : (contents : List (List ℕ)) (rest : List ℕ) → HasFrames bytes contents rest → IsUnfinished rest → ⊥
    at_contents [] rest h u = open_ (subst IsUnfinished (sym h) u)
    at_contents (c ∷ contents) rest h u = none h.0 h.1 c h.2 h.3

pub nothing_inside : (bytes : List ℕ) → bytes ≡ [] → EndsInside bytes → ⊥
nothing_inside bytes e =
    not_inside bytes (λ frame more content w f. empty_unheaded bytes e (headed_frame bytes frame more content w f)) (unfinished_some bytes e)

pub bad_inside : (bytes : List ℕ) (k : ℕ) → IsBad bytes k → EndsInside bytes → ⊥
bad_inside bytes k b =
    not_inside bytes (λ frame more content w f. bad_unheaded bytes k b (headed_frame bytes frame more content w f)) (λ u. unfinished_not_bad bytes k u b)

pub too_long_inside : (bytes : List ℕ) (said : ℕ) → IsTooLong bytes said → EndsInside bytes → ⊥
too_long_inside bytes said l =
    not_inside bytes (λ frame more content w f. frame_not_long bytes frame more content said w f l) (λ u. unfinished_not_long bytes said u l)

-- asking takes no byte from what was fed
pub next_counted : (old : Held) (a : FrameNext) (new : Held) → IsNext old a new → new.taken + length new.waiting ≡ old.taken + length old.waiting
next_counted old Message new p = omega (arith, p.3, ap length p.1, length-append p.0 new.waiting)
next_counted old NotYet new p = ap (λ h. h.taken + length h.waiting) p.0
next_counted old (BadHeader k) new p = ap (λ h. h.taken + length h.waiting) p.0
next_counted old (TooLong n) new p = ap (λ h. h.taken + length h.waiting) p.0

header_short : (header : List ℕ) (n : ℕ) → IsHeader header n → length header < 2 ^ 12
header_short header n h = with_line h.0 h.1.short h.2
  where
    alone : (line : List ℕ) → length (header_of (line ∷ [])) ≡ length line + 4
    alone line = length-append line (13 ∷ 10 ∷ 13 ∷ 10 ∷ [])

    both : (line other : List ℕ) → length (header_of (line ∷ other ∷ [])) ≡ length line + (2 + (length other + 4))
    both line other =
        length-append line (13 ∷ 10 ∷ header_of (other ∷ [])) ∙ ap (λ k. length line + suc (suc k)) (alone other) ∙ ap (λ k. length line + k) (omega arith)

    with_line : (line : List ℕ) → length line ≤ 1024 → HasFields header line → length header < 2 ^ 12
    with_line line short f =
        ⊎_elim (λ e. omega (arith, short, ap length e, alone line))
        (λ q.
        ⊎_elim (λ e. omega (arith, short, q.1.short, ap length e, both line q.0))
        (λ e. omega (arith, short, q.1.short, ap length e, both q.0 line)) q.2) f

-- less than a frame is not long
pub unfinished_short : (bytes : List ℕ) → IsUnfinished bytes → length bytes < 2 ^ 24 + 2 ^ 12
unfinished_short bytes u =
    ⊎_elim (λ p. omega (arith, header_short (bytes ++ p.more) p.said p.header, length-append bytes p.more))
    (λ l.
    omega (arith, header_short l.header l.said l.says, ap length l.written, length-append l.header l.content, l.lacking, l.fits)) u
