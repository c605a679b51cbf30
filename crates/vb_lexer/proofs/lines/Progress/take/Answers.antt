use Rattle.std.proofs.Common.{◌≡◌, true, is_some, ◌++◌, ap, sym, ◌∙◌, subst, refl}
use Rattle.std.specs.Prelude.{IfSome}
use Rattle.vb_lexer.specs.{Lines.{is_token, IsToken}, Reader.{Reads, part}}
use Rattle.vb_lexer.proofs.{Steps.{on_ok, here_token}, Unique.token_stays}
use Rattle.vb_lexer.proofs.lines.Progress.take.Goals as goal

pub returns-in-Some-clause-reads : goal.returns-in-Some-clause-reads
returns-in-Some-clause-reads c = on_ok c.add_token.result (λ h later items ext reads.
    let yes : is_token c.args.piece ≡ true = sym c.in_ok-token.ensures.some ∙ ap (λ o. is_some o) c.in-Some.is in
    subst (λ is. Reads later c.add_token.new.self (items ++ is)) (sym (here_token c.args.self.now.reader.line c.args.self.now.reader.breaks (part c.args.piece c.args.characters.now) yes))
    (h later items (part c.args.piece c.args.characters.now) refl (token_stays c.token_of.new.names later (part c.args.piece c.args.characters.now) c.in-Some.token ext
    (subst (λ o. IfSome o (λ t. IsToken c.token_of.new.names (part c.args.piece c.args.characters.now) t)) c.in-Some.is c.in_ok-token.ensures.token)) reads)) c.add_token.ensures.reads
