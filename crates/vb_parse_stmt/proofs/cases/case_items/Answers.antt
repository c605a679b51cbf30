use Rattle.std.proofs.Common.{rules, ◌≡◌, ◌+◌, ◌-◌, List, [], ◌∷◌, ◌++◌, length, Err, refl, arith, ◌∙◌, sym, subst, drop, length-drop}
use Rattle.vb_syntax.specs.declared.statement.CaseItem.{CaseItem}
use Rattle.vb_parse_decl.specs.{Parts.AreListed, DeclaredReading.{IsPartAt, is_end, is_over}}
use Rattle.vb_parse_stmt.specs.Statements.{IsCaseItem}
use Rattle.vb_parse_decl.proofs.{DeclaredParts.{whole_part, part_whole}, DeclaredLists.{Leads, leads_on, leads_to, no_first}, DeclaredNames.{declarator_ends, comma_over}, DeclaredDeclarators.end_at, DeclaredFinds.told_on}
use Rattle.vb_parse_stmt.proofs.{CaseItems.one_case_item, CaseSame.case_items_long}
use Rattle.vb_parse_stmt.proofs.cases.case_items.Goals as goal

pub returns-in_err-one : goal.returns-in_err-one
returns-in_err-one c =
    let tokens = c.args.line.now.tokens in
    let same : c.from_residual.result ≡ Err c.in_err-one.field-0.0 = search (rules, c.from_residual.ensures) in
    told_on (IsPartAt is_over IsCaseItem) (AreListed IsCaseItem) c.args.line.now (drop 1 tokens) c.loop-at.at c.in_err-one.field-0.0 c.from_residual.result same
    (λ none ds p. no_first is_over is_end IsCaseItem declarator_ends tokens 1 c.loop-at.at c.loop-at.found c.loop-at.invariant none ds (length (drop 1 tokens))
    (part_whole is_end (AreListed IsCaseItem) (drop 1 tokens) ds refl p))
    c.in_err-one.ensures

pub returns-then-behind-len : goal.returns-then-behind-len
returns-then-behind-len c =
    let tokens = c.args.line.now.tokens in
    let found = c.in_ok-one.ensures in
    let pushed : c.push.new.self ≡ c.loop-at.found ++ c.in_ok-one.one ∷ [] = search (rules, c.in_ok-push.ensures.ok) in
    let all : c.in_ok-one.behind ≡ length tokens = c.if-behind-len.true ∙ c.len-in-loop-at.ensures in
    subst (λ (ds : List CaseItem). AreListed IsCaseItem (drop 1 tokens) ds) (sym pushed)
    (whole_part is_end (AreListed IsCaseItem) (drop 1 tokens) (c.loop-at.found ++ c.in_ok-one.one ∷ []) (c.in_ok-one.behind - 1)
    (leads_to is_over is_end IsCaseItem tokens 1 c.loop-at.at c.in_ok-one.behind c.loop-at.found c.in_ok-one.one
    c.loop-at.invariant found.0 found.1 (end_at tokens c.in_ok-one.behind all))
    (omega (arith, all, length-drop 1 tokens)))

pub loop-at-preserved : goal.loop-at-preserved
loop-at-preserved c =
    let tokens = c.args.line.now.tokens in
    let found = c.in_ok-one.ensures in
    let pushed : c.push.new.self ≡ c.loop-at.found ++ c.in_ok-one.one ∷ [] = search (rules, c.in_ok-push.ensures.ok) in
    subst (λ (ds : List CaseItem). Leads is_end IsCaseItem tokens 1 (c.in_ok-one.behind + 1) ds) (sym pushed)
    (leads_on is_over is_end IsCaseItem declarator_ends (one_case_item c.primary_begins.ensures c.one_reading.ensures.expressions)
    tokens 1 c.loop-at.at c.in_ok-one.behind c.loop-at.found c.in_ok-one.one (omega arith) c.loop-at.invariant found.0 found.1
    (comma_over tokens c.loop-at.at c.in_ok-one.behind found.0 (omega (arith, found.0, found.1.within, length-drop c.loop-at.at tokens, c.loop-at.invariant.within)) found.1.over
    (λ e. c.if-behind-len.false (e ∙ sym c.len-in-loop-at.ensures))))

pub returns : goal.returns
returns c =
    let tokens = c.args.line.now.tokens in (
      λ ds p. c.loop-at.invariant.none
          (λ ys n q. let long = case_items_long c.primary_begins.ensures (drop c.loop-at.at tokens) ys n q in omega (arith, long, length-drop c.loop-at.at tokens))
          ds (length (drop 1 tokens)) (part_whole is_end (AreListed IsCaseItem) (drop 1 tokens) ds refl p),
      c.refusal.ensures,
    )
