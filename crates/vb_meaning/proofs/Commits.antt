-- Each ask of a program counts as a step of it.
use Rattle.std.proofs.Common.{◌≡◌, ℕ, Bool, true, false, List, [], ◌∷◌, ℤ, Option, Some, None, length, refl, subst}
use Rattle.std.specs.Prelude.{nat_le, if◌then◌else◌}
use Rattle.vb_text.specs.Units.{most_units}
use Rattle.vb_threads.specs.Machine.{Silent, Asks, Rests}
use Rattle.vb_value.specs.Store.{Ask, Write, Reply}
use Rattle.vb_bound.specs.{declared.tree.{Operand.Operand, Statement.{Statement, TheVariants.{Assign, WriteLine}}}, Tree.{Block, Done, Then, Loop, Tree}}
use Rattle.vb_meaning.specs.Source.{SourceThread, Going, Gone, SourceNext, Pending, Calls-main, Declares, Gives, Does, Acts, Tests, Decides, source_next, throws, out_of_memory, or_overflows, writes, value_of, line_text, declares, does, acts}

-- if it asks, it commits
abbrev Commits : SourceNext → Type 0
Commits (Silent begins after) = Unit {0}
Commits (Asks ask commits go) = (r : Reply) → commits r ≡ true
Commits (Rests over) = Unit {0}

written : (b : Bool) (text : List ℕ) (after : SourceThread) → Commits (if b then Asks (Write text) (λ r. true) (λ r. after) else throws out_of_memory)
written true text after = λ r. refl
written false text after = λ r. refl

overflowed : (o : Option ℤ) (go : ℤ → SourceNext) → ((v : ℤ) → Commits (go v)) → Commits (or_overflows o go)
overflowed None go h = λ r. refl
overflowed (Some v) go h = h v

acted : (s : Statement) (vars : List ℤ) (rest : List Pending) → Commits (acts s vars rest)
acted (Assign x e) vars rest = overflowed (value_of vars e) _ (λ v. tt)
acted (WriteLine e) vars rest = overflowed (value_of vars e) (λ v. writes (line_text v) (Going vars rest)) (λ v. written (nat_le (length (line_text v)) most_units) (line_text v) (Going vars rest))

declared : (x : ℕ) (ds : List (Option Operand)) (vars : List ℤ) (rest : List Pending) → Commits (declares x ds vars rest)
declared x [] vars rest = tt
declared x (d ∷ ds) vars rest = tt

done : (b : Block) (vars : List ℤ) (rest : List Pending) → Commits (does b vars rest)
done Done vars rest = tt
done (Then s more) vars rest = tt
done (Loop test body more) vars rest = tt

commits : (t : Tree) (s : SourceThread) → Commits (source_next t s)
commits t (Gone over) = tt
commits t (Going vars []) = λ r. refl
commits t (Going vars (Calls-main ∷ rest)) = tt
commits t (Going vars (Declares x ds ∷ rest)) = declared x ds vars rest
commits t (Going vars (Gives x p ∷ rest)) = tt
commits t (Going vars (Does block ∷ rest)) = done block vars rest
commits t (Going vars (Acts s ∷ rest)) = acted s vars rest
commits t (Going vars (Tests test body ∷ rest)) = tt
commits t (Going vars (Decides test body ∷ rest)) = tt

pub each_commits : (t : Tree) (s : SourceThread) (a : Ask) (c : Reply → Bool) (go : Reply → SourceThread) → source_next t s ≡ Asks a c go → (r : Reply) → c r ≡ true
each_commits t s a c go e = subst Commits e (commits t s)
