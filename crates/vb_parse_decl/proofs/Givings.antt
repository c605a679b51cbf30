-- What a reader that failed gives, where another fails with it.
use Rattle.std.proofs.Common.{◌≡◌, Option, None, Result, Err, sym, subst}
use Rattle.vb_parse_expr.specs.{declared.fault.Fault.{Fault, TheVariants.{Memory, Grammar}}, TypeReading.{Gives, Fails}}

fails_with : {A B : Type 0} (r : Option A) (s : Option B) (f : Fault) → (r ≡ None → s ≡ None) → Fails f r → Fails f s
fails_with r s Memory none e = tt
fails_with r s Grammar none e = none e

pub failed : {X A B : Type 0} (view : X → B) (r : Option A) (s : Option B) (f : Fault) (result : Result X Fault) → result ≡ Err f → (r ≡ None → s ≡ None) → Fails f r
    → Gives view result s
failed view r s f result same none e = subst (λ q. Gives view q s) (sym same) (fails_with r s f none e)
