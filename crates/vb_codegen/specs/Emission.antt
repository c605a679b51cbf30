-- Code of which a front is emitted.
use Rattle.std.specs.Prelude.{◌≡◌, ℕ, ◌+◌, ◌<◌, List, [], ◌∷◌, ◌++◌, length, slice_set}
use Rattle.vb_bound.specs.{declared.tree.{Condition.Condition, Line.{Line, TheVariants.EndWhile}}, Tree.{Block, lines_of}}
use Rattle.vb_code.specs.declared.instr.{Instr.TheVariants.Jump, Step.Step}
use Rattle.vb_codegen.specs.{declared.lines.OpenLoop.OpenLoop, Emitted.{step, test_code, block_code}}

-- a loop whose jump stands at this place
abbrev pub open_at : ℕ → Condition → OpenLoop
open_at start test = record { start = start; test = test }

-- the code with a loop closed behind it: its jump leads to its test, which is added
abbrev pub closed : OpenLoop → List Step → List Step
closed loop steps = slice_set steps loop.start (step 1 (Jump (length steps))) ++ test_code (loop.start + 1) loop.test

-- After these instructions the lines that are left complete the whole code: those up to the end of the innermost open
-- loop, then those up to the end of the loop round it, and so on. The innermost loop is the last of the list.
pub data Completes : (steps : List Step) (loops : List OpenLoop) (lines : List Line) (whole : List Step) → Type 0 where
  last : {steps : List Step} {loops : List OpenLoop} {lines : List Line} {whole : List Step} → (block : Block) → loops ≡ [] → lines ≡ lines_of block → whole ≡ steps ++ block_code (length steps) block → Completes steps loops lines whole
  inside : {steps : List Step} {loops : List OpenLoop} {lines : List Line} {whole : List Step} → (block : Block) (outer : List OpenLoop) (loop : OpenLoop) (rest : List Line) → loops ≡ outer ++ loop ∷ [] → loop.start < length steps → lines ≡ lines_of block ++ EndWhile ∷ rest
      → Completes (closed loop (steps ++ block_code (length steps) block)) outer rest whole → Completes steps loops lines whole

-- after these instructions the lines complete some code
abbrev pub CanComplete : List Step → List OpenLoop → List Line → Type 0
CanComplete steps loops lines = (whole : List Step) × Completes steps loops lines whole

-- what completes the code after the first instructions, completes it after the second ones, with this line done
abbrev pub Goes : Line → List Step → List OpenLoop → List Step → List OpenLoop → Type 0
Goes line steps loops steps' loops' = (lines : List Line) (whole : List Step) → Completes steps loops (line ∷ lines) whole → Completes steps' loops' lines whole
