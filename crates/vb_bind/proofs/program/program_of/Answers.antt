use Rattle.std.proofs.Common.{◌≡◌, ◌+◌, ◌++◌, [], ◌∷◌, length, Some, sym, ap, subst, ◌∙◌, true, rules, arith, length-append}
use Rattle.vb_bound.specs.Tree.{AreLocals, IsInitialOf}
use Rattle.vb_bind.specs.Parsing.{dim_read, is_new}
use Rattle.vb_bind.proofs.Steps.{behind_first, first_is, dim_more, more_dims}
use Rattle.vb_bind.proofs.program.program_of.Goals as goal

pub loop-rest-preserved : goal.loop-rest-preserved
loop-rest-preserved c =
    let names : c.push.new.self.items ≡ c.loop-rest.names.items ++ c.in-Some.name ∷ [] = search rules in
    let locals : c.push-else-is_err.new.self.items ≡ c.loop-rest.locals.items ++ c.in-Some.initial ∷ [] = search rules in
    let first = c.statement-item.result in
    let behind = behind_first c.loop-rest.rest.now in
    let split : c.loop-rest.rest.now ≡ first ∷ behind = first_is c.loop-rest.rest.now first c.in-len1-up.len_at_least c.statement-item.is in
    let dim : dim_read c.args.known.now c.loop-rest.names.items first.form ≡ Some (c.in-Some.name, c.in-Some.initial) = search rules in
    let new : is_new c.args.own_name c.loop-rest.names.items c.in-Some.name ≡ true = search rules in
    let len : length c.deref.result.now ≡ length c.loop-rest.names.items = ap length c.deref.ensures.value in
    let before : length c.loop-rest.locals.items ≡ length c.loop-rest.names.items = c.loop-rest.invariant.same in
    let at : length c.deref.result.now ≡ 0 + length c.loop-rest.locals.items = omega (arith, len, before) in
    let init : IsInitialOf (0 + length c.loop-rest.locals.items) c.in-Some.initial = subst (λ n. IsInitialOf n c.in-Some.initial) at c.in-Some.ensures.bound in
    let more_names : length c.push.new.self.items ≡ length c.loop-rest.names.items + 1 = ap length names ∙ length-append c.loop-rest.names.items (c.in-Some.name ∷ []) in
    let more : length c.push-else-is_err.new.self.items ≡ length c.loop-rest.locals.items + 1 = ap length locals ∙ length-append c.loop-rest.locals.items (c.in-Some.initial ∷ []) in
    record {
      read = sym (dim_more c.args.known.now c.args.own_name c.loop-rest.names.items c.push.new.self.items c.loop-rest.locals.items c.push-else-is_err.new.self.items c.loop-rest.rest.now first behind c.in-Some.name c.in-Some.initial split dim new names locals) ∙ c.loop-rest.invariant.read;
      bound = subst (λ ds. AreLocals 0 ds) (sym locals) (more_dims 0 c.loop-rest.locals.items c.in-Some.initial c.loop-rest.invariant.bound init);
      same = omega (arith, before, more_names, more);
    }
