-- A turn of the reading of a type.
use Rattle.std.proofs.Common.{◌≡◌, ℕ, suc, List, Option, Some, None, Result, Ok, Err, refl, ap, ◌∙◌}
use Rattle.vb_syntax.specs.declared.{tokens.Token.Token, types.SimpleTypeName.SimpleTypeName}
use Rattle.vb_parse_expr.specs.{declared.{fault.Fault.{Fault, TheVariants.{Memory, Grammar}}, types.{OpenName.OpenName, TypeState.TypeState}}, TypeReading.{Fails, run_types, type_step, step_ends, turn_ends, finished}}
use Rattle.vb_parse_expr.specs.declared.types.TypeState.TheVariants as at

pub unfinished : (s : TypeState) → ((x : SimpleTypeName) → s ≡ at.Done x → ⊥) → finished s ≡ Err s
unfinished at.Want on = refl
unfinished (at.Have x) on = refl
unfinished (at.Done x) on = absurd (on x refl)

pub turn_on : (n : ℕ) (ws : List OpenName) (s : TypeState) (ts : List Token) (p : List OpenName × TypeState × List Token) (t : TypeState)
    → type_step ws s ts ≡ Some p → finished p.1 ≡ Err t → run_types (suc n) ws s ts ≡ run_types n p.0 t p.2
unfolding run_types
turn_on n ws s ts p t e f = ap (step_ends (run_types n)) e ∙ ap (turn_ends (run_types n) p.0 p.2) f

pub turn_done : (n : ℕ) (ws : List OpenName) (s : TypeState) (ts : List Token) (p : List OpenName × TypeState × List Token) (x : SimpleTypeName)
    → type_step ws s ts ≡ Some p → finished p.1 ≡ Ok x → run_types (suc n) ws s ts ≡ Some (x, p.2)
unfolding run_types
turn_done n ws s ts p x e f = ap (step_ends (run_types n)) e ∙ ap (turn_ends (run_types n) p.0 p.2) f

pub turn_fails : (n : ℕ) (ws : List OpenName) (s : TypeState) (ts : List Token) → type_step ws s ts ≡ None → run_types (suc n) ws s ts ≡ None
unfolding run_types
turn_fails n ws s ts e = ap (step_ends (run_types n)) e

-- a step that fails by want of grammar, in a reading that then fails
pub fails_on : {A B : Type 0} (f : Fault) (r : Option A) (q : Option B) → (r ≡ None → q ≡ None) → Fails f r → Fails f q
fails_on Memory r q g h = tt
fails_on Grammar r q g h = g h
