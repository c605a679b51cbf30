use Rattle.std.proofs.Common.{◌++◌}
use Rattle.vb_diag.specs.Rules.{lexical_rules, lines_rules, declarations_rules, types_rules, expressions_rules, calls_rules, branches_rules, unbuilt_rules}
use Rattle.vb_diag.proofs.Tables.{found_in_two}
use Rattle.vb_diag.proofs.table.text_of.Goals as goal

-- each `or` looks on in the next group
pub returns : goal.returns
returns c =
    let in_lines = found_in_two c.args.number lexical_rules lines_rules _ _ c.or.result c.lexical_text.ensures c.lines_text.ensures c.or.ensures in
    let in_declarations = found_in_two c.args.number (lexical_rules ++ lines_rules) declarations_rules _ _ c.or-2.result in_lines c.declarations_text.ensures c.or-2.ensures in
    let in_types = found_in_two c.args.number (lexical_rules ++ lines_rules ++ declarations_rules) types_rules _ _ c.or-3.result in_declarations c.types_text.ensures c.or-3.ensures in
    let in_expressions = found_in_two c.args.number (lexical_rules ++ lines_rules ++ declarations_rules ++ types_rules) expressions_rules _ _ c.or-4.result in_types c.expressions_text.ensures c.or-4.ensures in
    let in_calls = found_in_two c.args.number (lexical_rules ++ lines_rules ++ declarations_rules ++ types_rules ++ expressions_rules) calls_rules _ _ c.or-5.result in_expressions c.calls_text.ensures c.or-5.ensures in
    let in_branches = found_in_two c.args.number (lexical_rules ++ lines_rules ++ declarations_rules ++ types_rules ++ expressions_rules ++ calls_rules) branches_rules _ _ c.or-6.result in_calls c.branches_text.ensures c.or-6.ensures in
    found_in_two c.args.number (lexical_rules ++ lines_rules ++ declarations_rules ++ types_rules ++ expressions_rules ++ calls_rules ++ branches_rules) unbuilt_rules _ _ c.or-7.result in_branches c.unbuilt_text.ensures c.or-7.ensures
