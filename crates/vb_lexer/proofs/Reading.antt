-- A reader keeps what it has read.
use Rattle.std.proofs.Common.{◌≡◌, ℕ, ◌<◌, ◌≤◌, Bool, true, false, ◌&&◌, ◌||◌, nat_lt, List, [], ◌∷◌, ◌++◌, length, Option, None, Some, refl, ap, sym, ◌∙◌, subst, append_assoc, append-nil, ◌⊎◌, inl, inr, arith, if◌then◌else◌, not}
use Rattle.std.proofs.lemmas.Grind.{common_steps}
use Rattle.vb_diag.specs.{declared.refusal.Refusal.Refusal, Broken.{IsLeast, InFile}}
use Rattle.vb_syntax.specs.declared.tokens.{Token.Token, Line.Line}
use Rattle.vb_lexer.specs.declared.piece.Piece.TheVariants as piece
use Rattle.vb_lexer.specs.{declared.{piece.Fault.{Fault, TheVariants.LongLine}, reader.Reader.Reader}, Lines.{Item, is_fault, goes_on, closes, joined, grouped, IsToken, AreTokens, AreLines, HasFault, SomeLineBreaks, line_number, fault_rule, most_tokens}, Reader.{Chain, last_of, IsHand, Reads, with_broken, closed_line, closed_least, parts_lines}}
use Rattle.vb_lexer.proofs.{Groups.{split_off, one_line, chain_more, last_more, faulty, no_fault, tokens_more, no_tokens, tokens_counted, count_fault, tokens_sound, fault_last, fault_only}, LeastLines.{some_front, some_last, some_split, least_same, least_more}}

lines_more : (table : List (List ℕ)) (file : ℕ) (gs : List (List Item)) (ls : List Line) (g : List Item) (l : Line) → AreLines table file gs ls → (l.file ≡ file) × (l.number ≡ line_number g) × AreTokens table g l.tokens → AreLines table file (gs ++ (g ∷ [])) (ls ++ (l ∷ []))
lines_more table file [] [] g l are here = (here, tt)
lines_more table file [] (x ∷ xs) g l are here = absurd are
lines_more table file (h ∷ hs) [] g l are here = absurd are
lines_more table file (h ∷ hs) (x ∷ xs) g l are here = (are.0, lines_more table file hs xs g l are.1 here)

some_broken : (k : Option Refusal) (file l : ℕ) (f : Fault) → with_broken k file l f ≡ None → ⊥
some_broken None file l f e = cc
some_broken (Some k) file l f e = cc

some_if : (long : Bool) (k : Option Refusal) (file l : ℕ) (f g : Fault) → (if long then with_broken (with_broken k file l f) file l g else with_broken k file l f) ≡ None → ⊥
some_if true k file l f g e = some_broken (with_broken k file l f) file l g e
some_if false k file l f g e = some_broken k file l f e

-- the same least of the same file
least_moved : (B : ℕ → ℕ → Type 0) (f g : ℕ) (a b : Option Refusal) → g ≡ f → b ≡ a → IsLeast (InFile f B) a → IsLeast (InFile g B) b
least_moved B f g a b files same least = subst (λ k. IsLeast (InFile k B) b) (sym files) (subst (λ k. IsLeast (InFile f B) k) (sym same) least)

below : (a b : ℕ) → nat_lt a b ≡ true → a < b
below a b e = grind (arith, common_steps)

not_below : (a b : ℕ) → nat_lt a b ≡ false → b ≤ a
not_below a b e = grind (arith, common_steps)

-- A LINE THAT ENDS WITHOUT A FAULT

-- its lines, where nothing is broken
closed_lines : (table : List (List ℕ)) (file start : ℕ) (whole : List (List Item)) (ls : List Line) (g : List Item) (ts : List Token) (least : Option Refusal) (long : Bool)
    → nat_lt most_tokens (length ts) ≡ long → start ≡ line_number g → 0 < length ts → AreTokens table g ts → (least ≡ None → AreLines table file whole ls)
    → (if long then with_broken least file start LongLine else least) ≡ None → AreLines table file (whole ++ (g ∷ [])) (ls ++ closed_line file start ts)
closed_lines table file start whole ls g [] least long was number some are lines none = absurd (omega (arith, some))
closed_lines table file start whole ls g (t ∷ ts) None true was number some are lines none = cc
closed_lines table file start whole ls g (t ∷ ts) (Some k) true was number some are lines none = absurd (some_broken (Some k) file start LongLine none)
closed_lines table file start whole ls g (t ∷ ts) least false was number some are lines none =
    rw was (lines_more table file whole ls g (record { file = file; number = start; tokens = t ∷ ts }) (lines none) (refl, number, are))

closed_breaks : (table : List (List ℕ)) (file start : ℕ) (whole : List (List Item)) (g : List Item) (ts : List Token) (least : Option Refusal) (long : Bool)
    → nat_lt most_tokens (length ts) ≡ long → start ≡ line_number g → AreTokens table g ts → IsLeast (InFile file (SomeLineBreaks whole)) least
    → IsLeast (InFile file (SomeLineBreaks (whole ++ (g ∷ [])))) (if long then with_broken least file start LongLine else least)
closed_breaks table file start whole g ts least true was number are is =
    least_more file (SomeLineBreaks whole) (SomeLineBreaks (whole ++ (g ∷ []))) least start LongLine is (λ l r h. some_front whole g l r h)
    (some_last whole g start 7 (sym number) (inr (refl, omega (arith, below most_tokens (length ts) was, tokens_counted table g ts are))))
    (λ l r h. elim (some_split whole g l r h) [
      | inl a ↦ inl a
      | inr b ↦ elim b.1 [ inl has ↦ absurd (tokens_sound table g ts r are has) | inr seven ↦ inr (sym b.0 ∙ sym number, seven.0) ]
    ])
closed_breaks table file start whole g ts least false was number are is =
    least_same file (SomeLineBreaks whole) (SomeLineBreaks (whole ++ (g ∷ []))) least is (λ l r h. some_front whole g l r h)
    (λ l r h. elim (some_split whole g l r h) [
      | inl a ↦ a
      | inr b ↦ elim b.1 [ inl has ↦ absurd (tokens_sound table g ts r are has) | inr seven ↦ absurd (omega (arith, seven.1, not_below most_tokens (length ts) was, tokens_counted table g ts are)) ]
    ])

-- A LINE THAT ENDS WITH A FAULT

-- the rules of the whole lines, and the fault's
abbrev Half : List (List Item) → ℕ → Fault → ℕ → ℕ → Type 0
Half whole start f l r = SomeLineBreaks whole l r ⊎ ((l ≡ start) × (r ≡ fault_rule f))

half_there : (whole : List (List Item)) (start : ℕ) (g : List Item) (x : Item) (f : Fault) → start ≡ line_number (g ++ (x ∷ [])) → x.part.piece ≡ piece.Fault f
    → (l r : ℕ) → Half whole start f l r → SomeLineBreaks (whole ++ ((g ++ (x ∷ [])) ∷ [])) l r
half_there whole start g x f number e l r (inl h) = some_front whole (g ++ (x ∷ [])) l r h
half_there whole start g x f number e l r (inr h) =
    some_last whole (g ++ (x ∷ [])) l r (sym number ∙ sym h.0) (inl (subst (λ k. HasFault (g ++ (x ∷ [])) k) (sym h.1) (fault_last g x f e)))

half_back : (table : List (List ℕ)) (whole : List (List Item)) (start : ℕ) (g : List Item) (x : Item) (f : Fault) (ts : List Token) → start ≡ line_number (g ++ (x ∷ [])) → x.part.piece ≡ piece.Fault f → AreTokens table g ts
    → (l r : ℕ) → SomeLineBreaks (whole ++ ((g ++ (x ∷ [])) ∷ [])) l r → Half whole start f l r ⊎ ((l ≡ start) × (r ≡ 7) × (most_tokens < length ts))
half_back table whole start g x f ts number e are l r h = elim (some_split whole (g ++ (x ∷ [])) l r h) [
  | inl a ↦ inl (inl a)
  | inr b ↦ elim b.1 [
    | inl has ↦ inl (inr (sym b.0 ∙ sym number, fault_only table g ts x f r are e has))
    | inr seven ↦ inr (sym b.0 ∙ sym number, seven.0, omega (arith, seven.1, count_fault g x (ap (λ q. is_fault q) e), tokens_counted table g ts are))
  ]
]

faulty_by : (table : List (List ℕ)) (file start : ℕ) (whole : List (List Item)) (g : List Item) (x : Item) (f : Fault) (ts : List Token) (best : Option Refusal) (long : Bool)
    → nat_lt most_tokens (length ts) ≡ long → start ≡ line_number (g ++ (x ∷ [])) → x.part.piece ≡ piece.Fault f → AreTokens table g ts → IsLeast (InFile file (Half whole start f)) best
    → IsLeast (InFile file (SomeLineBreaks (whole ++ ((g ++ (x ∷ [])) ∷ [])))) (if long then with_broken best file start LongLine else best)
faulty_by table file start whole g x f ts best true was number e are half =
    least_more file (Half whole start f) (SomeLineBreaks (whole ++ ((g ++ (x ∷ [])) ∷ []))) best start LongLine half (half_there whole start g x f number e)
    (some_last whole (g ++ (x ∷ [])) start 7 (sym number) (inr (refl, omega (arith, below most_tokens (length ts) was, count_fault g x (ap (λ q. is_fault q) e), tokens_counted table g ts are))))
    (λ l r h. elim (half_back table whole start g x f ts number e are l r h) [ inl a ↦ inl a | inr b ↦ inr (b.0, b.1) ])
faulty_by table file start whole g x f ts best false was number e are half =
    least_same file (Half whole start f) (SomeLineBreaks (whole ++ ((g ++ (x ∷ [])) ∷ []))) best half (half_there whole start g x f number e)
    (λ l r h. elim (half_back table whole start g x f ts number e are l r h) [ inl a ↦ a | inr b ↦ absurd (omega (arith, b.2, not_below most_tokens (length ts) was)) ])

faulty_breaks : (table : List (List ℕ)) (file start : ℕ) (whole : List (List Item)) (g : List Item) (x : Item) (f : Fault) (ts : List Token) (least : Option Refusal)
    → start ≡ line_number (g ++ (x ∷ [])) → x.part.piece ≡ piece.Fault f → AreTokens table g ts → IsLeast (InFile file (SomeLineBreaks whole)) least
    → IsLeast (InFile file (SomeLineBreaks (whole ++ ((g ++ (x ∷ [])) ∷ [])))) (closed_least (with_broken least file start f) file start ts)
faulty_breaks table file start whole g x f ts least number e are is =
    faulty_by table file start whole g x f ts (with_broken least file start f) (nat_lt most_tokens (length ts)) refl number e are
    (least_more file (SomeLineBreaks whole) (Half whole start f) least start f is (λ l r h. inl h) (inr (refl, refl)) (λ l r h. h))

-- AN ITEM COMES

-- the hand goes on with the item, or it is empty
abbrev Joins : Reader → List Item → Item → Type 0
Joins r [] x = r.start ≡ x.line
Joins r (a ∷ hs) x = Chain a hs × (r.start ≡ a.line) × (joined (last_of a hs) x ≡ true)

record Begins (table : List (List ℕ)) (r : Reader) (items : List Item) (x : Item) : Type 0 where
  whole : List (List Item)
  hand : List Item
  groups : (more : List Item) → grouped (items ++ (x ∷ more)) ≡ whole ++ grouped (hand ++ (x ∷ more))
  joins : Joins r hand x
  tokens : AreTokens table hand r.tokens
  lines : r.least ≡ None → AreLines table r.file whole r.lines
  least : IsLeast (InFile r.file (SomeLineBreaks whole)) r.least

-- what `begin_item` does
pub record BeganBy (r s : Reader) (cl : Bool) : Type 0 where
  pub lines : s.lines ≡ (if parts_lines r cl then r.lines ++ closed_line r.file r.start r.tokens else r.lines)
  pub least : s.least ≡ (if parts_lines r cl then closed_least r.least r.file r.start r.tokens else r.least)
  pub tokens : s.tokens ≡ (if parts_lines r cl then [] else r.tokens)
  pub fresh : s.tokens ≡ [] → s.start ≡ r.line
  pub start : (s.tokens ≡ [] → ⊥) → s.start ≡ r.start
  pub file : s.file ≡ r.file

some_tokens : (table : List (List ℕ)) (a : Item) (hs : List Item) (ts : List Token) → AreTokens table (a ∷ hs) ts → 0 < length ts
some_tokens table a hs [] are = absurd are
some_tokens table a hs (t ∷ ts) are = omega arith

joined_is : (a x : Item) (breaks goes cl : Bool) → is_fault a.part.piece ≡ false → x.breaks ≡ breaks → goes_on a.part.piece ≡ goes → closes x.part.piece ≡ cl
    → joined a x ≡ (not breaks || goes || cl)
joined_is a x breaks goes cl f b g c = rw (f, b, g, c) refl

lines_same : (b : Bool) (file start : ℕ) (ls : List Line) (ts : List Token) → ts ≡ [] → (if b then ls ++ closed_line file start ts else ls) ≡ ls
lines_same true file start ls ts e = rw e (append-nil ls)
lines_same false file start ls ts e = refl

least_kept : (b : Bool) (least : Option Refusal) (file start : ℕ) (ts : List Token) → ts ≡ [] → (if b then closed_least least file start ts else least) ≡ least
least_kept true least file start ts e = rw e refl
least_kept false least file start ts e = refl

tokens_same : (b : Bool) (ts : List Token) → ts ≡ [] → (if b then [] else ts) ≡ []
tokens_same true ts e = refl
tokens_same false ts e = e

goes_by : (br go cl : Bool) → (br && (if go then false else true) && (if cl then false else true)) ≡ false → (not br || go || cl) ≡ true
goes_by true true cl e = refl
goes_by true false true e = refl
goes_by true false false e = cc
goes_by false go cl e = refl

ends_by : (br go cl : Bool) → (br && (if go then false else true) && (if cl then false else true)) ≡ true → (not br || go || cl) ≡ false
ends_by true true cl e = cc
ends_by true false true e = cc
ends_by true false false e = refl
ends_by false go cl e = cc

-- no line was at hand
began_first : (table : List (List ℕ)) (r s : Reader) (items : List Item) (x : Item) (cl : Bool) (whole : List (List Item)) → ((more : List Item) → grouped (items ++ more) ≡ whole ++ grouped more)
    → AreTokens table [] r.tokens → (r.least ≡ None → AreLines table r.file whole r.lines) → IsLeast (InFile r.file (SomeLineBreaks whole)) r.least → x.line ≡ r.line → BeganBy r s cl → Begins table s items x
began_first table r s items x cl whole groups tokens lines least line by =
    let none = no_tokens table r.tokens tokens in
    let empty = by.tokens ∙ tokens_same (parts_lines r cl) r.tokens none in
    let same = by.lines ∙ lines_same (parts_lines r cl) r.file r.start r.lines r.tokens none in
    let kept = by.least ∙ least_kept (parts_lines r cl) r.least r.file r.start r.tokens none in
    record {
      whole = whole;
      hand = [];
      groups = λ more. groups (x ∷ more);
      joins = by.fresh empty ∙ sym line;
      tokens = subst (λ ts. AreTokens table [] ts) (sym empty) tt;
      lines = λ e. rw (by.file, same) (lines (sym kept ∙ e));
      least = least_moved (SomeLineBreaks whole) r.file s.file r.least s.least by.file kept least;
    }

-- the line at hand goes on
began_on : (table : List (List ℕ)) (r s : Reader) (items : List Item) (x : Item) (cl : Bool) (whole : List (List Item)) (a : Item) (hs : List Item) → ((more : List Item) → grouped (items ++ more) ≡ whole ++ grouped ((a ∷ hs) ++ more))
    → IsHand r (a ∷ hs) → AreTokens table (a ∷ hs) r.tokens → (r.least ≡ None → AreLines table r.file whole r.lines) → IsLeast (InFile r.file (SomeLineBreaks whole)) r.least → x.breaks ≡ r.breaks → closes x.part.piece ≡ cl → BeganBy r s cl
    → parts_lines r cl ≡ false → Begins table s items x
began_on table r s items x cl whole a hs groups is_hand tokens lines least breaks cls by e =
    let some = some_tokens table a hs r.tokens tokens in
    let same : s.tokens ≡ r.tokens = by.tokens ∙ (rw e refl) in
    let kept : s.least ≡ r.least = by.least ∙ (rw e refl) in
    let still : s.lines ≡ r.lines = by.lines ∙ (rw e refl) in
    let start = by.start (λ none. omega (arith, some, ap (λ ts. length ts) (sym same ∙ none))) in
    record {
      whole = whole;
      hand = a ∷ hs;
      groups = λ more. groups (x ∷ more);
      joins = (is_hand.0, start ∙ is_hand.1, joined_is (last_of a hs) x r.breaks r.goes_on cl is_hand.3 breaks is_hand.2 cls ∙ goes_by r.breaks r.goes_on cl e);
      tokens = subst (λ ts. AreTokens table (a ∷ hs) ts) (sym same) tokens;
      lines = λ n. rw (by.file, still) (lines (sym kept ∙ n));
      least = least_moved (SomeLineBreaks whole) r.file s.file r.least s.least by.file kept least;
    }

-- the line at hand is whole
began_new : (table : List (List ℕ)) (r s : Reader) (items : List Item) (x : Item) (cl : Bool) (whole : List (List Item)) (a : Item) (hs : List Item) → ((more : List Item) → grouped (items ++ more) ≡ whole ++ grouped ((a ∷ hs) ++ more))
    → IsHand r (a ∷ hs) → AreTokens table (a ∷ hs) r.tokens → (r.least ≡ None → AreLines table r.file whole r.lines) → IsLeast (InFile r.file (SomeLineBreaks whole)) r.least → x.line ≡ r.line → x.breaks ≡ r.breaks → closes x.part.piece ≡ cl → BeganBy r s cl
    → parts_lines r cl ≡ true → Begins table s items x
began_new table r s items x cl whole a hs groups is_hand tokens lines least line breaks cls by e =
    let some = some_tokens table a hs r.tokens tokens in
    let empty : s.tokens ≡ [] = by.tokens ∙ (rw e refl) in
    let kept : s.least ≡ closed_least r.least r.file r.start r.tokens = by.least ∙ (rw e refl) in
    let still : s.lines ≡ r.lines ++ closed_line r.file r.start r.tokens = by.lines ∙ (rw e refl) in
    let apart = joined_is (last_of a hs) x r.breaks r.goes_on cl is_hand.3 breaks is_hand.2 cls ∙ ends_by r.breaks r.goes_on cl e in
    record {
      whole = whole ++ ((a ∷ hs) ∷ []);
      hand = [];
      groups = λ more. groups (x ∷ more) ∙ ap (λ gs. whole ++ gs) (split_off a hs x more is_hand.0 apart) ∙ sym (append_assoc whole ((a ∷ hs) ∷ []) (grouped (x ∷ more)));
      joins = by.fresh empty ∙ sym line;
      tokens = subst (λ ts. AreTokens table [] ts) (sym empty) tt;
      lines = λ n. rw (by.file, still) (closed_lines table r.file r.start whole r.lines (a ∷ hs) r.tokens r.least (nat_lt most_tokens (length r.tokens)) refl is_hand.1 some tokens lines (sym kept ∙ n));
      least = least_moved (SomeLineBreaks (whole ++ ((a ∷ hs) ∷ []))) r.file s.file _ s.least by.file kept (closed_breaks table r.file r.start whole (a ∷ hs) r.tokens r.least (nat_lt most_tokens (length r.tokens)) refl is_hand.1 tokens least);
    }

began_by : (table : List (List ℕ)) (r s : Reader) (items : List Item) (x : Item) (cl : Bool) (whole : List (List Item)) (hand : List Item) → ((more : List Item) → grouped (items ++ more) ≡ whole ++ grouped (hand ++ more))
    → IsHand r hand → AreTokens table hand r.tokens → (r.least ≡ None → AreLines table r.file whole r.lines) → IsLeast (InFile r.file (SomeLineBreaks whole)) r.least → x.line ≡ r.line → x.breaks ≡ r.breaks → closes x.part.piece ≡ cl → BeganBy r s cl
    → (b : Bool) → parts_lines r cl ≡ b → Begins table s items x
began_by table r s items x cl whole [] groups is_hand tokens lines least line breaks cls by b e = began_first table r s items x cl whole groups tokens lines least line by
began_by table r s items x cl whole (a ∷ hs) groups is_hand tokens lines least line breaks cls by true e = began_new table r s items x cl whole a hs groups is_hand tokens lines least line breaks cls by e
began_by table r s items x cl whole (a ∷ hs) groups is_hand tokens lines least line breaks cls by false e = began_on table r s items x cl whole a hs groups is_hand tokens lines least breaks cls by e

began : (table : List (List ℕ)) (r s : Reader) (items : List Item) (x : Item) (cl : Bool) → Reads table r items → x.line ≡ r.line → x.breaks ≡ r.breaks → closes x.part.piece ≡ cl → BeganBy r s cl → Begins table s items x
began table r s items x cl reads line breaks cls by =
    began_by table r s items x cl reads.whole reads.hand reads.groups reads.is_hand reads.tokens reads.lines reads.least line breaks cls by (parts_lines r cl) refl

-- A TOKEN COMES

hand_more : (table : List (List ℕ)) (s t : Reader) (hand : List Item) (x : Item) → Joins s hand x → t.start ≡ s.start → goes_on x.part.piece ≡ t.goes_on → is_fault x.part.piece ≡ false → IsHand t (hand ++ (x ∷ []))
hand_more table s t [] x joins start goes f = (tt, start ∙ joins, goes, f)
hand_more table s t (a ∷ hs) x joins start goes f =
    (chain_more a hs x joins.0 joins.2, start ∙ joins.1, ap (λ (y : Item). goes_on y.part.piece) (last_more a hs x) ∙ goes, ap (λ (y : Item). is_fault y.part.piece) (last_more a hs x) ∙ f)

pub reads_token : (table : List (List ℕ)) (r s t : Reader) (items : List Item) (x : Item) (token : Token) (cl : Bool) → Reads table r items → x.line ≡ r.line → x.breaks ≡ r.breaks → closes x.part.piece ≡ cl → BeganBy r s cl
    → IsToken table x.part token → t.tokens ≡ s.tokens ++ (token ∷ []) → goes_on x.part.piece ≡ t.goes_on → t.start ≡ s.start → t.lines ≡ s.lines → t.least ≡ s.least → t.file ≡ s.file → Reads table t (items ++ (x ∷ []))
reads_token table r s t items x token cl reads line breaks cls by is tokens goes start lines least file =
    let b = began table r s items x cl reads line breaks cls by in
    record {
      whole = b.whole;
      hand = b.hand ++ (x ∷ []);
      groups = λ more. ap (λ us. grouped us) (append_assoc items (x ∷ []) more) ∙ b.groups more ∙ ap (λ us. b.whole ++ grouped us) (sym (append_assoc b.hand (x ∷ []) more));
      is_hand = hand_more table s t b.hand x b.joins start goes (no_fault table x.part token is);
      tokens = subst (λ ts. AreTokens table (b.hand ++ (x ∷ [])) ts) (sym tokens) (tokens_more table b.hand s.tokens x token b.tokens is);
      lines = λ n. rw (file, lines) (b.lines (sym least ∙ n));
      least = least_moved (SomeLineBreaks b.whole) s.file t.file s.least t.least file least b.least;
    }

-- A FAULT COMES

fault_group : (s : Reader) (hand : List Item) (x : Item) (more : List Item) → Joins s hand x → is_fault x.part.piece ≡ true → grouped (hand ++ (x ∷ more)) ≡ (hand ++ (x ∷ [])) ∷ grouped more
fault_group s [] x more joins f = faulty x [] more tt f
fault_group s (a ∷ hs) x more joins f =
    ap (λ us. grouped us) (sym (append_assoc (a ∷ hs) (x ∷ []) more))
    ∙ faulty a (hs ++ (x ∷ [])) more (chain_more a hs x joins.0 joins.2) (ap (λ (y : Item). is_fault y.part.piece) (last_more a hs x) ∙ f)

hand_number : (s : Reader) (hand : List Item) (x : Item) → Joins s hand x → s.start ≡ line_number (hand ++ (x ∷ []))
hand_number s [] x joins = joins
hand_number s (a ∷ hs) x joins = joins.1

pub reads_fault : (table : List (List ℕ)) (r s t : Reader) (items : List Item) (x : Item) (f : Fault) → Reads table r items → x.line ≡ r.line → x.breaks ≡ r.breaks → BeganBy r s false
    → x.part.piece ≡ piece.Fault f → t.tokens ≡ [] → t.file ≡ s.file → t.least ≡ closed_least (with_broken s.least s.file s.start f) s.file s.start s.tokens → Reads table t (items ++ (x ∷ []))
reads_fault table r s t items x f reads line breaks by e tokens file least =
    let b = began table r s items x false reads line breaks (ap (λ q. closes q) e) by in
    let is = ap (λ q. is_fault q) e in
    record {
      whole = b.whole ++ ((b.hand ++ (x ∷ [])) ∷ []);
      hand = [];
      groups = λ more. ap (λ us. grouped us) (append_assoc items (x ∷ []) more) ∙ b.groups more ∙ ap (λ gs. b.whole ++ gs) (fault_group s b.hand x more b.joins is) ∙ sym (append_assoc b.whole ((b.hand ++ (x ∷ [])) ∷ []) (grouped more));
      is_hand = tt;
      tokens = subst (λ ts. AreTokens table [] ts) (sym tokens) tt;
      lines = λ n. absurd (some_if (nat_lt most_tokens (length s.tokens)) s.least s.file s.start f LongLine (sym least ∙ n));
      least = least_moved (SomeLineBreaks (b.whole ++ ((b.hand ++ (x ∷ [])) ∷ []))) s.file t.file _ t.least file least (faulty_breaks table s.file s.start b.whole b.hand x f s.tokens s.least (hand_number s b.hand x b.joins) e b.tokens b.least);
    }

-- NOTHING WAS READ

pub reads_nothing : (table : List (List ℕ)) (r : Reader) → r.tokens ≡ [] → r.lines ≡ [] → r.least ≡ None → Reads table r []
reads_nothing table r tokens lines least = record {
  whole = [];
  hand = [];
  groups = λ more. refl;
  is_hand = tt;
  tokens = subst (λ ts. AreTokens table [] ts) (sym tokens) tt;
  lines = λ n. subst (λ ls. AreLines table r.file [] ls) (sym lines) tt;
  least = subst (λ k. IsLeast (InFile r.file (SomeLineBreaks [])) k) (sym least) (λ x h. h.1);
}

-- EVERYTHING WAS READ

-- what the lines are, and the least rule that they break
pub record WholeLines (table : List (List ℕ)) (r : Reader) (items : List Item) : Type 0 where
  pub lines : r.least ≡ None → AreLines table r.file (grouped items) r.lines
  pub least : IsLeast (InFile r.file (SomeLineBreaks (grouped items))) r.least

whole_by : (table : List (List ℕ)) (r s : Reader) (items : List Item) (whole : List (List Item)) (hand : List Item) → ((more : List Item) → grouped (items ++ more) ≡ whole ++ grouped (hand ++ more)) → IsHand r hand → AreTokens table hand r.tokens
    → (r.least ≡ None → AreLines table r.file whole r.lines) → IsLeast (InFile r.file (SomeLineBreaks whole)) r.least
    → s.file ≡ r.file → s.lines ≡ r.lines ++ closed_line r.file r.start r.tokens → s.least ≡ closed_least r.least r.file r.start r.tokens → WholeLines table s items
whole_by table r s items whole [] groups is_hand tokens lines least file still kept =
    let none = no_tokens table r.tokens tokens in
    let all : grouped items ≡ whole = ap (λ us. grouped us) (sym (append-nil items)) ∙ groups [] ∙ append-nil whole in
    let same : s.lines ≡ r.lines = still ∙ lines_same true r.file r.start r.lines r.tokens none in
    let keeps : s.least ≡ r.least = kept ∙ least_kept true r.least r.file r.start r.tokens none in
    record {
      lines = λ n. rw (all, file, same) (lines (sym keeps ∙ n));
      least = rw all (least_moved (SomeLineBreaks whole) r.file s.file r.least s.least file keeps least);
    }
whole_by table r s items whole (a ∷ hs) groups is_hand tokens lines least file still kept =
    let some = some_tokens table a hs r.tokens tokens in
    let all : grouped items ≡ whole ++ ((a ∷ hs) ∷ []) = ap (λ us. grouped us) (sym (append-nil items)) ∙ groups [] ∙ ap (λ us. whole ++ grouped us) (append-nil (a ∷ hs)) ∙ ap (λ gs. whole ++ gs) (one_line a hs is_hand.0) in
    record {
      lines = λ n. rw (all, file, still) (closed_lines table r.file r.start whole r.lines (a ∷ hs) r.tokens r.least (nat_lt most_tokens (length r.tokens)) refl is_hand.1 some tokens lines (sym kept ∙ n));
      least = rw all (least_moved (SomeLineBreaks (whole ++ ((a ∷ hs) ∷ []))) r.file s.file _ s.least file kept (closed_breaks table r.file r.start whole (a ∷ hs) r.tokens r.least (nat_lt most_tokens (length r.tokens)) refl is_hand.1 tokens least));
    }

pub whole_lines : (table : List (List ℕ)) (r s : Reader) (items : List Item) → Reads table r items → s.file ≡ r.file → s.lines ≡ r.lines ++ closed_line r.file r.start r.tokens → s.least ≡ closed_least r.least r.file r.start r.tokens → WholeLines table s items
whole_lines table r s items reads file still kept =
    whole_by table r s items reads.whole reads.hand reads.groups reads.is_hand reads.tokens reads.lines reads.least file still kept
