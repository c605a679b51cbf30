-- Of the symbols that stand at a place the longest is taken.
use Rattle.std.proofs.Common.{◌≡◌, ℕ, ◌≤◌, Bool, true, false, List, [], ◌∷◌, refl, ⊎_elim, arith}
use Rattle.std.proofs.lemmas.Bool.{and_parts, or_cases, leb-true, both_ways}
use Rattle.std.proofs.lemmas.Slice.Eq.{bytes_eq-Decides}
use Rattle.std.specs.Prelude.{◌&&◌, ◌||◌, nat_le, if◌then◌else◌, length, Option, Some, bytes_eq}
use Rattle.vb_syntax.specs.{Texts.symbol_text, declared.symbol.Symbol.Symbol}
use Rattle.vb_syntax.specs.declared.symbol.Symbol.TheVariants as sign
use Rattle.vb_lexer.specs.{Characters.Character, Tables.symbols, Tokens.{starts, symbol_in}}

-- the symbol that is found is the first or one behind it
found_stands : (b : Bool) (x s : Symbol) (rest : Option Symbol) (text : List Character) → starts (symbol_text x) text ≡ b → (rest ≡ Some s → starts (symbol_text s) text ≡ true) → (if b then Some x else rest) ≡ Some s → starts (symbol_text s) text ≡ true
found_stands true x s rest text e f h = let same : x ≡ s = cc in rw (← same) e
found_stands false x s rest text e f h = f h

stands_in : (ss : List Symbol) (text : List Character) (s : Symbol) → symbol_in ss text ≡ Some s → starts (symbol_text s) text ≡ true
stands_in [] text s h = cc
stands_in (x ∷ xs) text s h = found_stands (starts (symbol_text x) text) x s (symbol_in xs text) text refl (stands_in xs text s) h

pub symbol_stands : (text : List Character) (s : Symbol) → symbol_in symbols text ≡ Some s → starts (symbol_text s) text ≡ true
symbol_stands text s h = stands_in symbols text s h

-- none is longer
abbrev none_longer : ℕ → List Symbol → Bool
none_longer n [] = true
none_longer n (x ∷ xs) = nat_le (length (symbol_text x)) n && none_longer n xs

abbrev longer_first : List Symbol → Bool
longer_first [] = true
longer_first (x ∷ xs) = none_longer (length (symbol_text x)) xs && longer_first xs

abbrev pub has_text : List ℕ → List Symbol → Bool
has_text t [] = false
has_text t (x ∷ xs) = bytes_eq t (symbol_text x) || has_text t xs

pub each_has_text : (o : Symbol) → has_text (symbol_text o) symbols ≡ true
each_has_text sign.Plus = refl
each_has_text _ = refl

-- a text of the list is no longer than its longest
shorter : (n : ℕ) (ss : List Symbol) (t : List ℕ) → none_longer n ss ≡ true → has_text t ss ≡ true → length t ≤ n
shorter n [] t a m = cc
shorter n (x ∷ xs) t a m =
    let p = and_parts (nat_le (length (symbol_text x)) n) (none_longer n xs) a in
    ⊎_elim
    (λ e. rw ((bytes_eq-Decides t (symbol_text x)).0 e) (leb-true (length (symbol_text x)) n p.0))
    (λ k. shorter n xs t p.1 k)
    (or_cases (bytes_eq t (symbol_text x)) (has_text t xs) m)

-- where the first symbol stands or does not
at_first : (b : Bool) (x s : Symbol) (xs : List Symbol) (text : List Character) (t : List ℕ) → starts (symbol_text x) text ≡ b → longer_first (x ∷ xs) ≡ true → has_text t (x ∷ xs) ≡ true → starts t text ≡ true → (if b then Some x else symbol_in xs text) ≡ Some s → (longer_first xs ≡ true → has_text t xs ≡ true → symbol_in xs text ≡ Some s → length t ≤ length (symbol_text s)) → length t ≤ length (symbol_text s)
at_first true x s xs text t e l m st h f =
    let same : x ≡ s = cc in
    let p = and_parts (none_longer (length (symbol_text x)) xs) (longer_first xs) l in
    rw (← same)
    (⊎_elim
    (λ q. rw ((bytes_eq-Decides t (symbol_text x)).0 q) (omega arith))
    (λ k. shorter (length (symbol_text x)) xs t p.0 k)
    (or_cases (bytes_eq t (symbol_text x)) (has_text t xs) m))
at_first false x s xs text t e l m st h f =
    let p = and_parts (none_longer (length (symbol_text x)) xs) (longer_first xs) l in
    ⊎_elim
    (λ q. absurd (both_ways (starts (symbol_text x) text) e (rw (← (bytes_eq-Decides t (symbol_text x)).0 q) st)))
    (λ k. f p.1 k h)
    (or_cases (bytes_eq t (symbol_text x)) (has_text t xs) m)

longest_in : (ss : List Symbol) (text : List Character) (s : Symbol) (t : List ℕ) → longer_first ss ≡ true → has_text t ss ≡ true → starts t text ≡ true → symbol_in ss text ≡ Some s → length t ≤ length (symbol_text s)
longest_in [] text s t l m st h = cc
longest_in (x ∷ xs) text s t l m st h =
    at_first (starts (symbol_text x) text) x s xs text t refl l m st h (λ l' m' h'. longest_in xs text s t l' m' st h')

pub symbol_longest : (text : List Character) (s o : Symbol) → symbol_in symbols text ≡ Some s → starts (symbol_text o) text ≡ true → length (symbol_text o) ≤ length (symbol_text s)
symbol_longest text s o h st = longest_in symbols text s (symbol_text o) refl (each_has_text o) st h
