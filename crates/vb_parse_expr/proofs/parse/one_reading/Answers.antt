use Rattle.vb_parse_expr.proofs.Readings.{one_expression, one_primary, one_initializer, one_type, one_simple_type}
use Rattle.vb_parse_expr.proofs.parse.one_reading.Goals as goal

pub returns-clause-expressions : goal.returns-clause-expressions
returns-clause-expressions c = one_expression

pub returns-clause-primaries : goal.returns-clause-primaries
returns-clause-primaries c = one_primary

pub returns-clause-initializers : goal.returns-clause-initializers
returns-clause-initializers c = one_initializer

pub returns-clause-types : goal.returns-clause-types
returns-clause-types c = one_type

pub returns-clause-simple_types : goal.returns-clause-simple_types
returns-clause-simple_types c = one_simple_type
