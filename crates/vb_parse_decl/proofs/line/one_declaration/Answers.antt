use Rattle.vb_parse_decl.proofs.{DeclaredDeclarators.Readings, LineSame.line_same}
use Rattle.vb_parse_decl.proofs.line.one_declaration.Goals as goal

pub returns : goal.returns
returns c = λ words ts x y few p q.
    let laws : Readings = record {
      begins = c.primary_begins.ensures;
      expressions = c.one_reading.ensures.expressions;
      primaries = c.one_reading.ensures.primaries;
      initializers = c.one_reading.ensures.initializers;
      types = c.one_reading.ensures.types;
    } in
    line_same laws words ts x y few p q
