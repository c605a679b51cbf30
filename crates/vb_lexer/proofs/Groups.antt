-- Logical lines as they grow, item by item.
use Rattle.std.proofs.Common.{◌≡◌, ℕ, ◌+◌, true, false, List, [], ◌∷◌, ◌++◌, length, refl, ap, sym, ◌∙◌, append-nil, inl, inr, arith, if◌then◌else◌}
use Rattle.vb_syntax.specs.declared.tokens.Token.{Token}
use Rattle.vb_syntax.specs.declared.tokens.Token.TheVariants as token
use Rattle.vb_lexer.specs.declared.piece.Piece.TheVariants as piece
use Rattle.vb_lexer.specs.{declared.piece.Fault.Fault, Pieces.Part, Lines.{Item, is_fault, joined, onto_first, grouped, IsToken, AreTokens, HasFault, token_count, fault_rule}, Reader.{Chain, last_of}}

-- a line and what isn't joined to it
pub split_off : (a : Item) (hs : List Item) (b : Item) (more : List Item) → Chain a hs → joined (last_of a hs) b ≡ false → grouped ((a ∷ hs) ++ (b ∷ more)) ≡ (a ∷ hs) ∷ grouped (b ∷ more)
split_off a [] b more chain apart = rw apart refl
split_off a (c ∷ cs) b more chain apart =
    let rest = split_off c cs b more chain.1 apart in
    rw (chain.0) (ap (λ gs. onto_first a gs) rest)

pub one_line : (a : Item) (hs : List Item) → Chain a hs → grouped (a ∷ hs) ≡ (a ∷ hs) ∷ []
one_line a [] chain = refl
one_line a (c ∷ cs) chain = rw (chain.0) (ap (λ gs. onto_first a gs) (one_line c cs chain.1))

pub chain_more : (a : Item) (hs : List Item) (x : Item) → Chain a hs → joined (last_of a hs) x ≡ true → Chain a (hs ++ (x ∷ []))
chain_more a [] x chain j = (j, tt)
chain_more a (c ∷ cs) x chain j = (chain.0, chain_more c cs x chain.1 j)

pub last_more : (a : Item) (hs : List Item) (x : Item) → last_of a (hs ++ (x ∷ [])) ≡ x
last_more a [] x = refl
last_more a (c ∷ cs) x = last_more c cs x

pub after_fault : (x b : Item) → is_fault x.part.piece ≡ true → joined x b ≡ false
after_fault x b f = rw f refl

-- a line that ends with a fault
pub faulty : (a : Item) (hs : List Item) (more : List Item) → Chain a hs → is_fault (last_of a hs).part.piece ≡ true → grouped ((a ∷ hs) ++ more) ≡ (a ∷ hs) ∷ grouped more
faulty a hs [] chain f = ap (λ is. grouped is) (append-nil (a ∷ hs)) ∙ one_line a hs chain
faulty a hs (b ∷ more) chain f = split_off a hs b more chain (after_fault (last_of a hs) b f)

-- TOKENS

pub no_fault : (table : List (List ℕ)) (p : Part) (t : Token) → IsToken table p t → is_fault p.piece ≡ false
no_fault table p (token.Name n) is = ap (λ q. is_fault q) is.0
no_fault table p (token.EscapedName n) (inl is) = ap (λ q. is_fault q) is.0
no_fault table p (token.EscapedName n) (inr is) = ap (λ q. is_fault q) is.0
no_fault table p (token.Keyword k) is = ap (λ q. is_fault q) is
no_fault table p (token.Integer l) is = ap (λ q. is_fault q) is
no_fault table p (token.Text u) is = ap (λ q. is_fault q) is.0
no_fault table p (token.Char u) is = ap (λ q. is_fault q) is
no_fault table p (token.Symbol s) is = ap (λ q. is_fault q) is

pub tokens_more : (table : List (List ℕ)) (is : List Item) (ts : List Token) (x : Item) (t : Token) → AreTokens table is ts → IsToken table x.part t → AreTokens table (is ++ (x ∷ [])) (ts ++ (t ∷ []))
tokens_more table [] [] x t are here = (here, tt)
tokens_more table [] (u ∷ us) x t are here = absurd are
tokens_more table (i ∷ is) [] x t are here = absurd are
tokens_more table (i ∷ is) (u ∷ us) x t are here = (are.0, tokens_more table is us x t are.1 here)

pub no_tokens : (table : List (List ℕ)) (ts : List Token) → AreTokens table [] ts → ts ≡ []
no_tokens table [] are = refl
no_tokens table (t ∷ ts) are = absurd are

pub tokens_counted : (table : List (List ℕ)) (is : List Item) (ts : List Token) → AreTokens table is ts → token_count is ≡ length ts
tokens_counted table [] [] are = refl
tokens_counted table [] (t ∷ ts) are = absurd are
tokens_counted table (i ∷ is) [] are = absurd are
tokens_counted table (i ∷ is) (t ∷ ts) are = let rest = tokens_counted table is ts are.1 in rw (no_fault table i.part t are.0) (omega (arith, rest))

pub count_fault : (is : List Item) (x : Item) → is_fault x.part.piece ≡ true → token_count (is ++ (x ∷ [])) ≡ token_count is
count_fault [] x f = rw f refl
count_fault (i ∷ is) x f = ap (λ n. if is_fault i.part.piece then n else n + 1) (count_fault is x f)

pub tokens_sound : (table : List (List ℕ)) (is : List Item) (ts : List Token) (rule : ℕ) → AreTokens table is ts → HasFault is rule → ⊥
tokens_sound table [] ts rule are has = has
tokens_sound table (i ∷ is) [] rule are has = are
tokens_sound table (i ∷ is) (t ∷ ts) rule are (inl f) = let no = no_fault table i.part t are.0 in let yes = ap (λ q. is_fault q) f.1 in cc
tokens_sound table (i ∷ is) (t ∷ ts) rule are (inr has) = tokens_sound table is ts rule are.1 has

pub fault_last : (is : List Item) (x : Item) (f : Fault) → x.part.piece ≡ piece.Fault f → HasFault (is ++ (x ∷ [])) (fault_rule f)
fault_last [] x f e = inl (f, e, refl)
fault_last (i ∷ is) x f e = inr (fault_last is x f e)

same_fault : (f g : Fault) → piece.Fault f ≡ piece.Fault g → f ≡ g
same_fault f g e = cc

pub fault_only : (table : List (List ℕ)) (is : List Item) (ts : List Token) (x : Item) (f : Fault) (rule : ℕ) → AreTokens table is ts → x.part.piece ≡ piece.Fault f → HasFault (is ++ (x ∷ [])) rule → rule ≡ fault_rule f
fault_only table [] ts x f rule are e (inl h) = h.2 ∙ ap (λ g. fault_rule g) (same_fault h.0 f (sym h.1 ∙ e))
fault_only table [] ts x f rule are e (inr h) = absurd h
fault_only table (i ∷ is) [] x f rule are e h = absurd are
fault_only table (i ∷ is) (t ∷ ts) x f rule are e (inl h) = let no = no_fault table i.part t are.0 in let yes = ap (λ q. is_fault q) h.1 in absurd (cc)
fault_only table (i ∷ is) (t ∷ ts) x f rule are e (inr h) = fault_only table is ts x f rule are.1 e h
