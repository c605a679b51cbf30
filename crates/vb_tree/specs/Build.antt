-- The answer of the code, behind the last row or where it stopped.
use Rattle.std.specs.Prelude.{ℕ, Bool, true, Result, Ok, Err}
use Rattle.vb_syntax.specs.declared.declaration.SourceFile.{SourceFile}
use Rattle.vb_blocks.specs.declared.{fault.Fault.Fault, frame.Frame.Frame}
use Rattle.vb_blocks.specs.declared.fault.Fault.TheVariants as fault
use Rattle.vb_blocks.specs.declared.frame.Frame.TheVariants as frame
use Rattle.vb_tree.specs.declared.tree.BuildErr.{BuildErr}
use Rattle.vb_tree.specs.declared.tree.BuildErr.TheVariants as error

-- at a row in the line
abbrev pub stopped : Fault → ℕ → BuildErr
stopped fault.Memory line = error.Memory
stopped fault.Grammar line = error.Misplaced line

-- behind the last row, by whether the innermost frame is the outermost
abbrev pub finish : ℕ → Frame → Bool → Result SourceFile BuildErr
finish n (frame.File p) true = Ok (record { file = n; options = p.options; imports = p.imports; types = p.types })
finish n f b = Err error.Unended
