-- The code of a tree stands for it, and is paced.
use Rattle.std.proofs.Common.{◌≡◌, ℕ, ◌+◌, false, List, [], ◌∷◌, ◌++◌, map, length, replicate, pos, Option, Some, refl, ap, ◌∙◌, subst, arith, length-append}
use Rattle.std.specs.Prelude.{slice_get}
use Rattle.vb_num.specs.declared.kinds.Kind.TheVariants.{Integer}
use Rattle.vb_threads.specs.{Machine.Silent, World.{Entry, World, Run, opening}, Same.{Equal, EqualFor}, Stands.StandsFor, Steps.BySteps, Work.IsWithin}
use Rattle.vb_threads.proofs.{Law.rows_equal, Steps.{meet, both, more, stands_by_steps, within_by_steps}}
use Rattle.vb_value.specs.{Datum.{Number, default_of}, Store.Store}
use Rattle.vb_bound.specs.{declared.tree.Operand.Operand, Tree.Tree}
use Rattle.vb_meaning.specs.Source.{Calls-main, Declares, Does, Going, source_machine}
use Rattle.vb_code.specs.{declared.instr.Instr.TheVariants.{Jump, Return}, Code.Code, Machine.{CodeThread, At, code_machine}}
use Rattle.vb_codegen.specs.Emitted.{step, locals_code, block_code, front_code, main_code, integers, code_of}
use Rattle.vb_codegen.proofs.{Placed.{HasAt, has_front, has_back, has_all}, Simulation.{IsCodeOf, numbers, Leads, ends, declares, does, Between, between, Goes, goes_on, returned, turn}}

-- at most 256 turns come for each beginning
abbrev pub IsPacedCode : Code → Type 0
IsPacedCode c = (input : List ℕ) (heap : ℕ) (journal : List Entry) (w : World CodeThread Store) → Run (code_machine c) (opening (code_machine c) input heap) journal w → IsWithin (code_machine c) 256 w

module _ (t : Tree) where
  -- the code has the instructions of the tree, the line end and the classes
  is_code : IsCodeOf (code_of t) (main_code t)
  is_code = record { body = refl; begins = refl; line = refl; overflows = refl; memory = refl }

  -- the declarations and the statements follow the call of Main
  leads : Leads (main_code t) 1 (Declares 0 t.locals ∷ Does t.body ∷ [])
  leads =
      let steps = main_code t in
      let first = locals_code 1 0 t.locals in
      let behind = block_code (length (front_code t.locals)) t.body in
      let last = step 0 Return ∷ [] in
      let whole : HasAt steps 0 steps = has_all steps [] in
      let body_there = has_front steps 1 (first ++ behind) last whole.1 in
      let last_there = has_back steps 1 (first ++ behind) last whole.1 in
      let n : length (front_code t.locals) ≡ 1 + length first = omega arith in
      let m : 1 + length (first ++ behind) ≡ 1 + length first + length (block_code (1 + length first) t.body) = omega (arith, length-append first behind, ap (λ k. length (block_code k t.body)) n) in
      let behind_there = subst (λ k. HasAt steps (1 + length first) (block_code k t.body)) n (has_back steps 1 first behind body_there) in
      declares (1 + length first) (has_front steps 1 first behind body_there) refl
      (does (1 + length first + length (block_code (1 + length first) t.body)) behind_there refl
      (ends (subst (λ k. slice_get steps k ≡ Some (step 0 Return)) m last_there.0)))

  -- each local is 0 at first
  zeros : (ds : List (Option Operand)) → map default_of (integers ds) ≡ numbers (replicate (length ds) (pos 0))
  zeros [] = refl
  zeros (d ∷ ds) = ap (λ l. Number Integer (pos 0) ∷ l) (zeros ds)

  main_goes : Goes t (code_of t) (main_code t) is_code false 256 (At 0 [] (map default_of (integers t.locals))) (Going [] (Calls-main ∷ []))
  main_goes =
      let whole : HasAt (main_code t) 0 (main_code t) = has_all (main_code t) [] in
      both
      (turn t (code_of t) (main_code t) is_code 0 (step 1 (Jump 1)) [] (map default_of (integers t.locals)) whole.0 ∙ ap (λ l. Silent 1 (At 1 [] l)) (zeros t.locals))
      refl (meet (between leads)) (omega arith)

  by_steps : BySteps 256 Equal EqualFor Equal (Between t (code_of t) (main_code t) is_code) (code_machine (code_of t)) (source_machine t)
  by_steps = record {
    rows = rows_equal (code_machine (code_of t)).rows (source_machine t).rows refl;
    opening = λ input heap. refl;
    main = main_goes;
    started = λ calls. more (omega arith) (returned t (code_of t) (main_code t) is_code []);
    steps = goes_on t (code_of t) (main_code t) is_code;
  }

  pub stands : StandsFor (code_machine (code_of t)) (source_machine t)
  stands = stands_by_steps 256 Equal EqualFor Equal (Between t (code_of t) (main_code t) is_code) (code_machine (code_of t)) (source_machine t) by_steps

  pub paced : IsPacedCode (code_of t)
  paced = within_by_steps 256 Equal EqualFor Equal (Between t (code_of t) (main_code t) is_code) (code_machine (code_of t)) (source_machine t) by_steps (record { alone = λ w a r. refl; answered = λ a a' e r. (r, refl) })
