-- What a part's reader tells where it finds none is told again, as nothing stands there without the part.
use Rattle.std.proofs.Common.{◌≡◌, ℕ, List, drop, Result, Err, sym, subst}
use Rattle.vb_syntax.specs.declared.tokens.{Token.Token, Line.Line}
use Rattle.vb_parse_expr.specs.{declared.error.ParseErr.{ParseErr, TheVariants.{Refused, Memory}}, Fronts.Answers}
use Rattle.vb_parse_decl.specs.Answers.{Tells}

pub found_on : {X Y : Type 0} (F : List Token → X → ℕ → Type 0) (G : List Token → Y → ℕ → Type 0) (line : Line) (from at : ℕ) (e : ParseErr) (r : Result (Y × ℕ) ParseErr)
    → r ≡ Err e → (((x : X) (n : ℕ) → F (drop at line.tokens) x n → ⊥) → (y : Y) (n : ℕ) → G (drop from line.tokens) y n → ⊥)
    → Answers F line at (Err e) → Answers G line from r
found_on {X} {Y} F G line from at (Refused f) r same none told =
    subst (λ (q : Result (Y × ℕ) ParseErr). Answers G line from q) (sym same) (none told.0, told.1)
found_on {X} {Y} F G line from at Memory r same none told = subst (λ (q : Result (Y × ℕ) ParseErr). Answers G line from q) (sym same) tt

pub told_on : {X Y : Type 0} (F : List Token → X → ℕ → Type 0) (B : List Token → Y → Type 0) (line : Line) (ts : List Token) (at : ℕ) (e : ParseErr) (r : Result Y ParseErr)
    → r ≡ Err e → (((x : X) (n : ℕ) → F (drop at line.tokens) x n → ⊥) → (y : Y) → B ts y → ⊥)
    → Answers F line at (Err e) → Tells B line ts r
told_on {X} {Y} F B line ts at (Refused f) r same none told =
    subst (λ (q : Result Y ParseErr). Tells B line ts q) (sym same) (none told.0, told.1)
told_on {X} {Y} F B line ts at Memory r same none told = subst (λ (q : Result Y ParseErr). Tells B line ts q) (sym same) tt
