use Rattle.vb_parse_decl.proofs.DeclaredDeclarators.{Readings}
use Rattle.vb_parse_stmt.proofs.Declares.{all_same}
use Rattle.vb_parse_stmt.proofs.stmt.one_item.Goals as goal

pub returns : goal.returns
returns c = λ w ts x y apart few p q.
    let laws : Readings = record {
      begins = c.primary_begins.ensures;
      expressions = c.one_reading.ensures.expressions;
      primaries = c.one_reading.ensures.primaries;
      initializers = c.one_reading.ensures.initializers;
      types = c.one_reading.ensures.types;
    } in
    all_same w ts laws (λ d e p q. c.one_declaration.ensures w.words ts d e few p q) apart few x y p q
