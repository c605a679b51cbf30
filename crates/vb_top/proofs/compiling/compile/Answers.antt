use Rattle.std.proofs.Common.{◌≡◌, List, ap, sym, subst, inl, inr}
use Rattle.std.specs.Prelude.{Err}
use Rattle.std.proofs.lemmas.Result.{IfOk-weaker}
use Rattle.vb_diag.specs.declared.refusal.Refusal.{Refusal}
use Rattle.vb_syntax.specs.declared.{tokens.Line.Line, declaration.SourceFile.SourceFile}
use Rattle.vb_lexer.specs.{declared.error.LexErr.LexErr, Lines.Breaks}
use Rattle.vb_parse.specs.Rules.{BreaksLines, IsTreeOf}
use Rattle.vb_parse_expr.specs.declared.error.ParseErr.{ParseErr}
use Rattle.vb_bound.specs.Tree.{Tree, IsOutlineOf}
use Rattle.vb_bind.specs.Grammar.{IsProgramOf}
use Rattle.vb_top.specs.Programs.{HasLines, HasTree, IsProgram, IsLeastRule, LeastBroken}
use Rattle.vb_top.proofs.Compiled.{has_lines, has_tree, least_rule, no_other}
use Rattle.vb_top.proofs.compiling.compile.Goals as goal

pub parse-requires : goal.parse-requires
parse-requires c = c.words_apart.ensures c.new-3.new.names c.in_ok-words.words c.are_apart-2.ensures c.in_ok-words.ensures.words

pub returns-in-Err-Refused-clause-refused : goal.returns-in-Err-Refused-clause-refused
returns-in-Err-Refused-clause-refused c = λ refusal e.
    let bytes = c.args.bytes.now in
    let r = c.in-Err-Refused.refusal in
    let told = c.in-Err-Refused.ensures.refused r (ap (λ (x : LexErr). Err x) c.in-Err-Refused.field-0-is) in
    let same : r ≡ refusal = cc in
    subst (λ (x : Refusal). LeastBroken bytes x.line x.rule) same (inl (least_rule (Breaks bytes) r told))

pub returns-in-Ok-parse-clause-read : goal.returns-in-Ok-parse-clause-read
returns-in-Ok-parse-clause-read c =
    let bytes = c.args.bytes.now in
    let read : HasLines bytes = has_lines bytes c.in_ok-names.names c.lex.new.names c.new-2.new.names c.new-3.new.names c.in_ok-known.known c.in_ok-words.words c.in-Ok.lines c.in_ok-names.ensures
    c.in-Ok.ensures.lexed c.are_apart.ensures c.in_ok-known.ensures.grown c.in_ok-known.ensures.known c.in_ok-words.ensures.grown c.new-3.ensures.extends c.in_ok-words.ensures.words c.are_apart-2.ensures in
    let parsed : HasTree bytes = has_tree bytes read c.as_slice.result.now c.in-Ok-parse.tree c.as_slice.ensures c.in-Ok-parse.ensures.tree c.in-Ok-parse.ensures.sound in
    IfOk-weaker c.program_of.result (λ p. (t : Tree) × IsProgramOf c.in_ok-known.known c.in-Ok-parse.tree t × IsOutlineOf p t) (λ p. (t : Tree) × IsProgram bytes t × IsOutlineOf p t)
    (λ p h. (h.0, record { parsed = parsed; program = h.1 }, h.2)) c.program_of.ensures.read

pub returns-in-Ok-parse-clause-refused : goal.returns-in-Ok-parse-clause-refused
returns-in-Ok-parse-clause-refused c = λ refusal e.
    let bytes = c.args.bytes.now in
    let read : HasLines bytes = has_lines bytes c.in_ok-names.names c.lex.new.names c.new-2.new.names c.new-3.new.names c.in_ok-known.known c.in_ok-words.words c.in-Ok.lines c.in_ok-names.ensures
    c.in-Ok.ensures.lexed c.are_apart.ensures c.in_ok-known.ensures.grown c.in_ok-known.ensures.known c.in_ok-words.ensures.grown c.new-3.ensures.extends c.in_ok-words.ensures.words c.are_apart-2.ensures in
    let tree = c.in-Ok-parse.tree in
    let parsed : HasTree bytes = has_tree bytes read c.as_slice.result.now tree c.as_slice.ensures c.in-Ok-parse.ensures.tree c.in-Ok-parse.ensures.sound in
    let alone : (other : SourceFile) → IsTreeOf read.words 0 read.lines other → other ≡ tree = λ other is. c.in-Ok-parse.ensures.alone other (subst (λ (ls : List Line). IsTreeOf read.words 0 ls other) (sym c.as_slice.ensures) is) in
    let told = c.program_of.ensures.refused refusal e in
    inr (inr (parsed, told.0, no_other bytes read tree alone told.1, told.2))

pub returns-in-Err-Refused-parse-clause-refused : goal.returns-in-Err-Refused-parse-clause-refused
returns-in-Err-Refused-parse-clause-refused c = λ refusal e.
    let bytes = c.args.bytes.now in
    let read : HasLines bytes = has_lines bytes c.in_ok-names.names c.lex.new.names c.new-2.new.names c.new-3.new.names c.in_ok-known.known c.in_ok-words.words c.in-Ok.lines c.in_ok-names.ensures
    c.in-Ok.ensures.lexed c.are_apart.ensures c.in_ok-known.ensures.grown c.in_ok-known.ensures.known c.in_ok-words.ensures.grown c.new-3.ensures.extends c.in_ok-words.ensures.words c.are_apart-2.ensures in
    let r = c.in-Err-Refused-parse.refusal in
    let told = c.in-Err-Refused-parse.ensures.refused r (ap (λ (x : ParseErr). Err x) c.in-Err-Refused-parse.field-0-is) in
    let same : r ≡ refusal = cc in
    subst (λ (x : Refusal). LeastBroken bytes x.line x.rule) same
    (inr (inl (read, subst (λ (ls : List Line). IsLeastRule (BreaksLines read.words ls) r.line r.rule) c.as_slice.ensures (least_rule (BreaksLines read.words c.as_slice.result.now) r told))))
