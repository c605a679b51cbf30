-- From what is read of a line's tokens to what the public calls answer.
use Rattle.std.proofs.Common.{◌≡◌, ℕ, ◌+◌, ◌-◌, ◌<◌, ◌≤◌, false, List, [], ◌∷◌, ◌++◌, length, take, drop, Some, None, Result, Ok, Err, refl, ap, sym, subst, ◌∙◌, length-append, arith}
use Rattle.std.specs.Result.{IfOk}
use Rattle.std.proofs.lemmas.List.{length-drop}
use Rattle.std.proofs.Math.Seq.{take-append_seam, drop-append_seam}
use Rattle.vb_syntax.specs.declared.{tokens.{Token.Token, Line.Line}, types.{SimpleTypeName.SimpleTypeName, TypeName.TypeName}, expression.{Expr.Expr, VariableInitializer.VariableInitializer}}
use Rattle.vb_syntax.specs.declared.expression.VariableInitializer.TheVariants as init
use Rattle.vb_parse_expr.specs.{declared.{error.ParseErr.{ParseErr, TheVariants.{Refused, Memory}}, fault.Fault.Fault, pending.Goal.Goal}, Types.{SpellsType, SpellsSimpleType, IsTypeFront, IsSimpleTypeFront, goes_on_type}, Expressions.{Spells, SpellsPrimary, SpellsInitializer}, Fronts.{IsFront, IsPrimaryFront, IsInitializerFront, Answers, goes_on, goes_on_primary, goes_on_initializer}, TypeReading.{Read, Gives, and_then, with_array, read_type, read_simple_type, type_step, want_type, most_turns, most_tokens}, MachineReading.{run, step, want}, Placing.{Places, expression_at, expression_of, read_expression}}
use Rattle.vb_parse_expr.specs.declared.fault.Fault.TheVariants as fault
use Rattle.vb_parse_expr.specs.declared.pending.Goal.TheVariants as for
use Rattle.vb_parse_expr.specs.declared.machine.State.TheVariants as at
use Rattle.vb_parse_expr.specs.declared.types.TypeState.TheVariants as at_type
use Rattle.vb_parse_expr.proofs.TypeRuns as types
use Rattle.vb_parse_expr.proofs.Runs as runs
use Rattle.vb_parse_expr.proofs.{TypeFronts.{FoundType, FoundSimpleType, type_found, simple_type_found}, Sound.{FoundPrimary, FoundExpression, FoundInitializer, primary_found, expression_found, initializer_found}, Complete.expression_read}
use Rattle.vb_parse_expr.proofs.Readings as readings

-- A FRONT AND THE REST, BY A COUNT

record Parted (ts front rest : List Token) (n : ℕ) : Type 0 where
  within : n ≤ length ts
  taken : take n ts ≡ front
  left : drop n ts ≡ rest

parted_at : (front rest : List Token) → Parted (front ++ rest) front rest (length front)
parted_at front rest = record {
  within = omega (arith, length-append front rest);
  taken = take-append_seam front rest;
  left = drop-append_seam front rest;
}

parted : (ts front rest : List Token) (n : ℕ) → ts ≡ front ++ rest → n + length rest ≡ length ts → Parted ts front rest n
parted ts front rest n e count =
    let f : length ts ≡ length (front ++ rest) = ap length e in
    let m : length front ≡ n = omega (arith, length-append front rest) in
    subst (λ us. Parted us front rest n) (sym e) (subst (λ k. Parted (front ++ rest) front rest k) m (parted_at front rest))

front_of : (ts rest : List Token) (x : Expr) (n : ℕ) → FoundExpression ts x rest → n + length rest ≡ length ts → IsFront ts x n
front_of ts rest x n f count =
    let p = parted ts f.front rest n f.split count in
    record {
      within = p.within;
      strength = f.strength;
      weakest = f.weakest;
      spells = subst (λ us. Spells f.strength f.weakest us x) (sym p.taken) f.spells;
      over = ap goes_on p.left ∙ f.over;
    }

primary_front_of : (ts rest : List Token) (x : Expr) (n : ℕ) → FoundPrimary ts x rest → n + length rest ≡ length ts → IsPrimaryFront ts x n
primary_front_of ts rest x n f count =
    let p = parted ts f.front rest n f.split count in
    record {
      within = p.within;
      edge = f.edge;
      spells = subst (λ us. SpellsPrimary f.edge us x) (sym p.taken) f.spells;
      over = ap goes_on_primary p.left ∙ f.over;
    }

initializer_front_of : (ts rest : List Token) (i : VariableInitializer) (n : ℕ) → FoundInitializer ts i rest → n + length rest ≡ length ts → IsInitializerFront ts i n
initializer_front_of ts rest i n f count =
    let p = parted ts f.front rest n f.split count in
    record {
      within = p.within;
      spells = subst (λ us. SpellsInitializer us i) (sym p.taken) f.spells;
      over = ap (goes_on_initializer i) p.left ∙ f.over;
    }

type_front_of : (ts rest : List Token) (x : TypeName) (n : ℕ) → FoundType ts x rest → n + length rest ≡ length ts → IsTypeFront ts x n
type_front_of ts rest x n f count =
    let p = parted ts f.front rest n f.split count in
    record {
      within = p.within;
      dotted = f.dotted;
      opened = f.opened;
      spells = subst (λ us. SpellsType f.dotted f.opened us x) (sym p.taken) f.spells;
      over = ap (goes_on_type f.dotted f.opened) p.left ∙ f.over;
    }

simple_type_front_of : (ts rest : List Token) (x : SimpleTypeName) (n : ℕ) → FoundSimpleType ts x rest → n + length rest ≡ length ts → IsSimpleTypeFront ts x n
simple_type_front_of ts rest x n f count =
    let p = parted ts f.front rest n f.split count in
    record {
      within = p.within;
      dotted = f.dotted;
      spells = subst (λ us. SpellsSimpleType f.dotted us x) (sym p.taken) f.spells;
      over = ap (goes_on_type f.dotted false) p.left ∙ f.over;
    }

-- NOTHING IS READ OF NO TOKENS

no_step : (goal : Goal) → step goal [] at.Want [] ≡ None
unfolding step want
no_step goal = refl

no_run : (goal : Goal) → run goal most_turns [] at.Want [] ≡ None
no_run goal = runs.turn_fails goal 340282366920938463463374607431768211454 [] at.Want [] (no_step goal)

no_type_step : type_step [] at_type.Want [] ≡ None
unfolding type_step want_type
no_type_step = refl

no_simple_type : read_simple_type [] ≡ None
unfolding read_simple_type
no_simple_type = types.turn_fails 340282366920938463463374607431768211454 [] at_type.Want [] no_type_step

no_type : read_type [] ≡ None
unfolding read_type
no_type = ap (λ r. and_then r (λ x rest. Some (with_array x rest))) no_simple_type

some_tokens : {X : Type 0} (read : List Token → Read X) (ts : List Token) (p : X × List Token) → read [] ≡ None → read ts ≡ Some p → 0 < length ts
some_tokens read [] p none e = absurd cc
some_tokens read (t ∷ ts) p none e = omega arith

-- PLACES IN THE LINE

record At (line : List Token) (from : ℕ) (rest : List Token) : Type 0 where
  behind : from ≤ length line - length rest
  count : (length line - length rest - from) + length rest ≡ length (drop from line)
  below : length rest ≤ length line

placed_at : (line front rest : List Token) (from : ℕ) → drop from line ≡ front ++ rest → 0 < length (drop from line) → At line from rest
placed_at line front rest from e some =
    let l : length (drop from line) ≡ length (front ++ rest) = ap length e in
    record {
      behind = omega (arith, length-append front rest, length-drop from line);
      count = omega (arith, length-append front rest, length-drop from line);
      below = omega (arith, length-append front rest, length-drop from line);
    }

-- ANSWERS

-- what is read stands at the front, and what stands there is read
pub record Reads {X : Type 0} (IsAtFront : List Token → X → ℕ → Type 0) (line : List Token) (from : ℕ) (read : Read X) : Type 0 where
  pub found : (x : X) (rest : List Token) → read ≡ Some (x, rest)
      → (from ≤ length line - length rest) × IsAtFront (drop from line) x (length line - length rest - from)
  pub within : (x : X) (rest : List Token) → read ≡ Some (x, rest) → length rest ≤ length line
  pub complete : (x : X) (n : ℕ) → IsAtFront (drop from line) x n → read ≡ Some (x, drop n (drop from line))

pub answers : {X R : Type 0} (IsAtFront : List Token → X → ℕ → Type 0) (view : R → List Token) (line : Line) (from : ℕ) (read : Read X)
    (found : Result (X × R) Fault) (result : Result (X × ℕ) ParseErr) → Reads IsAtFront line.tokens from read
    → Gives (λ p. (p.0, view p.1)) found read → Places view line found result → Answers IsAtFront line from result
answers IsAtFront view line from read (Ok p) (Ok q) reads gives places =
    subst (λ q. Answers IsAtFront line from (Ok q)) (sym places) (reads.found p.0 (view p.1) gives)
answers IsAtFront view line from read (Ok p) (Err e) reads gives places = absurd places
answers IsAtFront view line from read (Err fault.Memory) (Ok q) reads gives places = absurd places
answers IsAtFront view line from read (Err fault.Grammar) (Ok q) reads gives places = absurd places
answers IsAtFront view line from read (Err fault.Memory) (Err Memory) reads gives places = tt
answers IsAtFront view line from read (Err fault.Memory) (Err (Refused r)) reads gives places = absurd places
answers IsAtFront view line from read (Err fault.Grammar) (Err Memory) reads gives places = absurd places
answers IsAtFront view line from read (Err fault.Grammar) (Err (Refused r)) reads gives places =
    ((λ x n f. let e = reads.complete x n f in absurd cc), places)

pub rest_within : {X R : Type 0} (IsAtFront : List Token → X → ℕ → Type 0) (view : R → List Token) (line : Line) (from : ℕ) (read : Read X)
    (found : Result (X × R) Fault) → Reads IsAtFront line.tokens from read → Gives (λ p. (p.0, view p.1)) found read
    → IfOk found (λ p. length (view p.1) ≤ length line.tokens)
rest_within IsAtFront view line from read (Ok p) reads gives = reads.within p.0 (view p.1) gives
rest_within IsAtFront view line from read (Err f) reads gives = tt

-- WHAT THE FIVE READINGS FIND

expression_at_some : (rest behind : List Token) (i : VariableInitializer) (x : Expr) → expression_at rest i ≡ Some (x, behind)
    → ◌≡◌ {A = Read VariableInitializer} (Some (i, rest)) (Some (init.Expression x, behind))
expression_at_some rest behind (init.Expression y) x e =
    let h : ◌≡◌ {A = Expr × List Token} (y, rest) (x, behind) = cc in
    ap (λ p. Some (init.Expression p.0, p.1)) h
expression_at_some rest behind i x e = absurd cc

expression_of_some : (read : Read VariableInitializer) (x : Expr) (rest : List Token) → expression_of read ≡ Some (x, rest)
    → read ≡ Some (init.Expression x, rest)
expression_of_some None x rest e = absurd cc
expression_of_some (Some p) x rest e = expression_at_some p.1 rest p.0 x e

found_expression : (ts rest : List Token) (x : Expr) → expression_of (run for.Expression most_turns [] at.Want ts) ≡ Some (x, rest) → FoundExpression ts x rest
found_expression ts rest x e =
    let f = expression_found {i = init.Expression x} most_turns (expression_of_some (run for.Expression most_turns [] at.Want ts) x rest e) in
    let same : f.0 ≡ x = cc in
    subst (λ y. FoundExpression ts y rest) same f.2

found_primary : (ts rest : List Token) (x : Expr) → expression_of (run for.Primary most_turns [] at.Want ts) ≡ Some (x, rest) → FoundPrimary ts x rest
found_primary ts rest x e =
    let f = primary_found {i = init.Expression x} most_turns (expression_of_some (run for.Primary most_turns [] at.Want ts) x rest e) in
    let same : f.0 ≡ x = cc in
    subst (λ y. FoundPrimary ts y rest) same f.2

tokens_within : (line : List Token) (from : ℕ) → length line ≤ most_tokens → length (drop from line) ≤ most_tokens
tokens_within line from within = omega (arith, length-drop from line)

pub reads_expression : (line : List Token) (from : ℕ) → length line ≤ most_tokens
    → Reads IsFront line from (expression_of (run for.Expression most_turns [] at.Want (drop from line)))
reads_expression line from most =
    let ts = drop from line in
    let place = λ (x : Expr) (rest : List Token) (e : expression_of (run for.Expression most_turns [] at.Want ts) ≡ Some (x, rest)).
    let f = found_expression ts rest x e in
    placed_at line f.front rest from f.split
    (some_tokens (run for.Expression most_turns [] at.Want) ts (init.Expression x, rest) (no_run for.Expression) (expression_of_some _ x rest e)) in
    record {
      found = λ x rest e. ((place x rest e).behind, front_of ts rest x _ (found_expression ts rest x e) (place x rest e).count);
      within = λ x rest e. (place x rest e).below;
      complete = λ x n f. ap expression_of (readings.expression_at ts x n (tokens_within line from most) f);
    }

pub reads_primary : (line : List Token) (from : ℕ) → length line ≤ most_tokens
    → Reads IsPrimaryFront line from (expression_of (run for.Primary most_turns [] at.Want (drop from line)))
reads_primary line from most =
    let ts = drop from line in
    let place = λ (x : Expr) (rest : List Token) (e : expression_of (run for.Primary most_turns [] at.Want ts) ≡ Some (x, rest)).
    let f = found_primary ts rest x e in
    placed_at line f.front rest from f.split
    (some_tokens (run for.Primary most_turns [] at.Want) ts (init.Expression x, rest) (no_run for.Primary) (expression_of_some _ x rest e)) in
    record {
      found = λ x rest e. ((place x rest e).behind, primary_front_of ts rest x _ (found_primary ts rest x e) (place x rest e).count);
      within = λ x rest e. (place x rest e).below;
      complete = λ x n f. ap expression_of (readings.primary_at ts x n (tokens_within line from most) f);
    }

pub reads_initializer : (line : List Token) (from : ℕ) → length line ≤ most_tokens
    → Reads IsInitializerFront line from (run for.Initializer most_turns [] at.Want (drop from line))
reads_initializer line from most =
    let ts = drop from line in
    let place = λ (i : VariableInitializer) (rest : List Token) (e : run for.Initializer most_turns [] at.Want ts ≡ Some (i, rest)).
    let f = initializer_found most_turns e in
    placed_at line f.front rest from f.split (some_tokens (run for.Initializer most_turns [] at.Want) ts (i, rest) (no_run for.Initializer) e) in
    record {
      found = λ i rest e. ((place i rest e).behind, initializer_front_of ts rest i _ (initializer_found most_turns e) (place i rest e).count);
      within = λ i rest e. (place i rest e).below;
      complete = λ i n f. readings.initializer_at ts i n (tokens_within line from most) f;
    }

pub reads_type : (line : List Token) (from : ℕ) → length line ≤ most_tokens → Reads IsTypeFront line from (read_type (drop from line))
reads_type line from most =
    let ts = drop from line in
    let place = λ (x : TypeName) (rest : List Token) (e : read_type ts ≡ Some (x, rest)).
    let f = type_found e in
    placed_at line f.front rest from f.split (some_tokens read_type ts (x, rest) no_type e) in
    record {
      found = λ x rest e. ((place x rest e).behind, type_front_of ts rest x _ (type_found e) (place x rest e).count);
      within = λ x rest e. (place x rest e).below;
      complete = λ x n f. readings.type_at ts x n (tokens_within line from most) f;
    }

pub reads_simple_type : (line : List Token) (from : ℕ) → length line ≤ most_tokens → Reads IsSimpleTypeFront line from (read_simple_type (drop from line))
reads_simple_type line from most =
    let ts = drop from line in
    let place = λ (x : SimpleTypeName) (rest : List Token) (e : read_simple_type ts ≡ Some (x, rest)).
    let f = simple_type_found e in
    placed_at line f.front rest from f.split (some_tokens read_simple_type ts (x, rest) no_simple_type e) in
    record {
      found = λ x rest e. ((place x rest e).behind, simple_type_front_of ts rest x _ (simple_type_found e) (place x rest e).count);
      within = λ x rest e. (place x rest e).below;
      complete = λ x n f. readings.simple_type_at ts x n (tokens_within line from most) f;
    }

-- A READER OF TOKENS

pub expression_reads : (ts rest : List Token) (x : Expr) → read_expression ts ≡ Some (x, rest) → FoundExpression ts x rest
unfolding read_expression
expression_reads ts rest x e = found_expression ts rest x e

pub reads_front : {front : List Token} {x : Expr} {h w : ℕ} (rest : List Token) → Spells h w front x → goes_on rest ≡ false → length (front ++ rest) ≤ most_tokens
    → read_expression (front ++ rest) ≡ Some (x, rest)
unfolding read_expression
reads_front rest s over within = ap expression_of (expression_read rest s over within)
