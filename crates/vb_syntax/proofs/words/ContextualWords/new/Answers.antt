-- each word is put in behind the earlier ones
use Rattle.std.specs.Prelude.{codes}
use Rattle.vb_syntax.proofs.Growth.{grown_twice}
use Rattle.vb_syntax.proofs.words.ContextualWords.new.Goals as goal

pub returns-in_err-infer-clause-extends : goal.returns-in_err-infer-clause-extends
returns-in_err-infer-clause-extends c =
    let one = c.intern.ensures.extends in
    let two = grown_twice _ _ _ one c.intern-2.ensures.extends in
    let three = grown_twice _ _ _ two c.intern-3.ensures.extends in
    let four = grown_twice _ _ _ three c.intern-4.ensures.extends in
    grown_twice _ _ _ four c.intern-5.ensures.extends

pub returns-in_err-iterator-clause-extends : goal.returns-in_err-iterator-clause-extends
returns-in_err-iterator-clause-extends c =
    let one = c.intern.ensures.extends in
    let two = grown_twice _ _ _ one c.intern-2.ensures.extends in
    let three = grown_twice _ _ _ two c.intern-3.ensures.extends in
    let four = grown_twice _ _ _ three c.intern-4.ensures.extends in
    let five = grown_twice _ _ _ four c.intern-5.ensures.extends in
    grown_twice _ _ _ five c.intern-6.ensures.extends

pub returns-in_err-off-clause-extends : goal.returns-in_err-off-clause-extends
returns-in_err-off-clause-extends c =
    let one = c.intern.ensures.extends in
    let two = grown_twice _ _ _ one c.intern-2.ensures.extends in
    let three = grown_twice _ _ _ two c.intern-3.ensures.extends in
    let four = grown_twice _ _ _ three c.intern-4.ensures.extends in
    let five = grown_twice _ _ _ four c.intern-5.ensures.extends in
    let six = grown_twice _ _ _ five c.intern-6.ensures.extends in
    grown_twice _ _ _ six c.intern-7.ensures.extends

pub returns-in_err-strict-clause-extends : goal.returns-in_err-strict-clause-extends
returns-in_err-strict-clause-extends c =
    let one = c.intern.ensures.extends in
    let two = grown_twice _ _ _ one c.intern-2.ensures.extends in
    let three = grown_twice _ _ _ two c.intern-3.ensures.extends in
    let four = grown_twice _ _ _ three c.intern-4.ensures.extends in
    let five = grown_twice _ _ _ four c.intern-5.ensures.extends in
    let six = grown_twice _ _ _ five c.intern-6.ensures.extends in
    let seven = grown_twice _ _ _ six c.intern-7.ensures.extends in
    grown_twice _ _ _ seven c.intern-8.ensures.extends

pub returns-in_err-text-clause-extends : goal.returns-in_err-text-clause-extends
returns-in_err-text-clause-extends c =
    let one = c.intern.ensures.extends in
    let two = grown_twice _ _ _ one c.intern-2.ensures.extends in
    let three = grown_twice _ _ _ two c.intern-3.ensures.extends in
    let four = grown_twice _ _ _ three c.intern-4.ensures.extends in
    let five = grown_twice _ _ _ four c.intern-5.ensures.extends in
    let six = grown_twice _ _ _ five c.intern-6.ensures.extends in
    let seven = grown_twice _ _ _ six c.intern-7.ensures.extends in
    let eight = grown_twice _ _ _ seven c.intern-8.ensures.extends in
    grown_twice _ _ _ eight c.intern-9.ensures.extends

pub returns-in_err-until-clause-extends : goal.returns-in_err-until-clause-extends
returns-in_err-until-clause-extends c =
    let one = c.intern.ensures.extends in
    let two = grown_twice _ _ _ one c.intern-2.ensures.extends in
    let three = grown_twice _ _ _ two c.intern-3.ensures.extends in
    let four = grown_twice _ _ _ three c.intern-4.ensures.extends in
    let five = grown_twice _ _ _ four c.intern-5.ensures.extends in
    let six = grown_twice _ _ _ five c.intern-6.ensures.extends in
    let seven = grown_twice _ _ _ six c.intern-7.ensures.extends in
    let eight = grown_twice _ _ _ seven c.intern-8.ensures.extends in
    let nine = grown_twice _ _ _ eight c.intern-9.ensures.extends in
    grown_twice _ _ _ nine c.intern-10.ensures.extends

pub returns-in_err-yields-clause-extends : goal.returns-in_err-yields-clause-extends
returns-in_err-yields-clause-extends c =
    let one = c.intern.ensures.extends in
    let two = grown_twice _ _ _ one c.intern-2.ensures.extends in
    let three = grown_twice _ _ _ two c.intern-3.ensures.extends in
    let four = grown_twice _ _ _ three c.intern-4.ensures.extends in
    let five = grown_twice _ _ _ four c.intern-5.ensures.extends in
    let six = grown_twice _ _ _ five c.intern-6.ensures.extends in
    let seven = grown_twice _ _ _ six c.intern-7.ensures.extends in
    let eight = grown_twice _ _ _ seven c.intern-8.ensures.extends in
    let nine = grown_twice _ _ _ eight c.intern-9.ensures.extends in
    let ten = grown_twice _ _ _ nine c.intern-10.ensures.extends in
    grown_twice _ _ _ ten c.intern-11.ensures.extends

pub returns-clause-extends : goal.returns-clause-extends
returns-clause-extends c =
    let one = c.intern.ensures.extends in
    let two = grown_twice _ _ _ one c.intern-2.ensures.extends in
    let three = grown_twice _ _ _ two c.intern-3.ensures.extends in
    let four = grown_twice _ _ _ three c.intern-4.ensures.extends in
    let five = grown_twice _ _ _ four c.intern-5.ensures.extends in
    let six = grown_twice _ _ _ five c.intern-6.ensures.extends in
    let seven = grown_twice _ _ _ six c.intern-7.ensures.extends in
    let eight = grown_twice _ _ _ seven c.intern-8.ensures.extends in
    let nine = grown_twice _ _ _ eight c.intern-9.ensures.extends in
    let ten = grown_twice _ _ _ nine c.intern-10.ensures.extends in
    grown_twice _ _ _ ten c.intern-11.ensures.extends

-- and stays while the later ones come
pub returns-clause-words : goal.returns-clause-words
returns-clause-words c =
    let stay = c.names_stay.ensures in
    let last = c.intern-11.new.self in
    let ten = c.intern-11.ensures.extends in
    let nine = grown_twice _ _ _ c.intern-10.ensures.extends ten in
    let eight = grown_twice _ _ _ c.intern-9.ensures.extends nine in
    let seven = grown_twice _ _ _ c.intern-8.ensures.extends eight in
    let six = grown_twice _ _ _ c.intern-7.ensures.extends seven in
    let five = grown_twice _ _ _ c.intern-6.ensures.extends six in
    let four = grown_twice _ _ _ c.intern-5.ensures.extends five in
    let three = grown_twice _ _ _ c.intern-4.ensures.extends four in
    let two = grown_twice _ _ _ c.intern-3.ensures.extends three in
    let one = grown_twice _ _ _ c.intern-2.ensures.extends two in (
      stay c.intern.new.self last (codes "Binary") c.in_ok-binary.binary c.in_ok-binary.ensures.named one,
      stay c.intern-2.new.self last (codes "Compare") c.in_ok-compare.compare c.in_ok-compare.ensures.named two,
      stay c.intern-3.new.self last (codes "Custom") c.in_ok-custom.custom c.in_ok-custom.ensures.named three,
      stay c.intern-4.new.self last (codes "Explicit") c.in_ok-explicit.explicit c.in_ok-explicit.ensures.named four,
      stay c.intern-5.new.self last (codes "Infer") c.in_ok-infer.infer c.in_ok-infer.ensures.named five,
      stay c.intern-6.new.self last (codes "Iterator") c.in_ok-iterator.iterator c.in_ok-iterator.ensures.named six,
      stay c.intern-7.new.self last (codes "Off") c.in_ok-off.off c.in_ok-off.ensures.named seven,
      stay c.intern-8.new.self last (codes "Strict") c.in_ok-strict.strict c.in_ok-strict.ensures.named eight,
      stay c.intern-9.new.self last (codes "Text") c.in_ok-text.text c.in_ok-text.ensures.named nine,
      stay c.intern-10.new.self last (codes "Until") c.in_ok-until.until c.in_ok-until.ensures.named ten,
      c.in_ok-yields.ensures.named,
    )
