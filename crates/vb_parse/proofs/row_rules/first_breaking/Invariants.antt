use Rattle.std.proofs.Common.{take}
use Rattle.vb_diag.specs.Broken.{IsLeastLine}
use Rattle.vb_parse.specs.{Where.HasRow, RowRules.Breaks}
use Rattle.vb_parse.proofs.row_rules.first_breaking.Given as goal

abbrev pub invariant-loop-row : goal.invariant-loop-row
invariant-loop-row l = IsLeastLine (HasRow (Breaks l.rule) (take l.row-index l.rows)) l.first
