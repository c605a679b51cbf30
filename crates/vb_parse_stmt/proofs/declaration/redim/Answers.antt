use Rattle.std.proofs.Common.{rules, ◌≡◌, Err, arith}
use Rattle.vb_parse_stmt.specs.declared.front.Front.TheVariants as front
use Rattle.vb_parse_decl.specs.{Declarators.IsBound, DeclaredReading.{IsPartAt, anything}}
use Rattle.vb_parse_stmt.specs.Reading.{IsItemFrom}
use Rattle.vb_parse_decl.proofs.DeclaredFinds.{told_on}
use Rattle.vb_parse_stmt.proofs.DeclaredArrays.{no_redim, other_redim}
use Rattle.vb_parse_stmt.proofs.declaration.redim.Goals as goal

pub returns-in_err-found : goal.returns-in_err-found
returns-in_err-found c =
    let same : c.from_residual.result ≡ Err c.in_err-found.field-0.0 = search (rules, c.from_residual.ensures) in
    told_on (IsPartAt anything IsBound) (IsItemFrom c.args.context.now front.ReDim) c.args.line.now _ 2 c.in_err-found.field-0.0 c.from_residual.result same
    (λ none. no_redim c.args.context.now c.args.line.now.tokens none) c.in_err-found.ensures

pub returns-else-behind-len : goal.returns-else-behind-len
returns-else-behind-len c =
    let found = c.in_ok-found.ensures in (
      other_redim c.one_reading.ensures.expressions c.args.context.now c.args.line.now.tokens c.in_ok-found.behind c.in_ok-found.found
          c.rest.ensures.few (omega arith) found.0 found.1 (λ e. omega arith),
      c.refusal-else-behind-len.ensures,
    )
