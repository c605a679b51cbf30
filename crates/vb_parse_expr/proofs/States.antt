-- Steps from one state of the reading to the next.
use Rattle.std.proofs.Common.{◌≡◌, ℕ, Bool, true, false, List, [], ◌∷◌, ◌++◌, Some, None, refl, ap, sym, subst, ◌∙◌, append_assoc}
use Rattle.vb_syntax.specs.declared.{tokens.Token.Token, expression.{Expr.Expr, VariableInitializer.VariableInitializer}}
use Rattle.vb_parse_expr.specs.{declared.pending.{Pending.Pending, Goal.Goal}, Words.{opening, closing, dot, comma}, Types.goes_on_type, Expressions.{Edge, closed, operand, created, tested, Spells, SpellsPrimary, SpellsElements, SpellsList, one, more, SpellsInitializer, SpellsInitializers, one_initializer, more_initializers}, Reading.{after_opening, after_closing, after_dot}, TypeReading.popped, MachineReading.wants_element}
use Rattle.vb_parse_expr.proofs.{FirstTokens.{opening_first, closing_first, dot_first}, Waiting.{IsReadFrom, IsPlaced, Ready, Wanting, HasPrimary, HasBraces, ListBegun, ElementsBegun}, Settling.{last_waits, one_more_waits}}

-- WHAT STANDS BEHIND A PRIMARY

pub closed_ready : (ts : List Token) → Ready closed ts
closed_ready ts = record { member = λ rest e. refl; no_arguments = λ inner rest e f. refl; arguments = λ inner e y ys. refl }

pub operand_ready : (ts : List Token) → after_dot ts ≡ None → after_opening ts ≡ None → Ready operand ts
operand_ready ts no_dot no_opening = record {
  member = λ rest e. cc;
  no_arguments = λ inner rest e f. cc;
  arguments = λ inner e y ys. cc;
}

no_member : (dotted opened : Bool) (rest : List Token) → goes_on_type dotted opened (dot ∷ rest) ≡ false → dotted ≡ false
no_member true opened rest over = over
no_member false opened rest over = refl

no_array : (dotted opened : Bool) (rest : List Token) → goes_on_type dotted opened (opening ∷ closing ∷ rest) ≡ false → opened ≡ false
no_array dotted false rest over = refl
no_array true true rest over = over
no_array false true rest over = over

member_over : (dotted opened : Bool) (ts rest : List Token) → goes_on_type dotted opened ts ≡ false → after_dot ts ≡ Some rest
    → dotted ≡ false
member_over dotted opened ts rest over e =
    no_member dotted opened rest (subst (λ us. goes_on_type dotted opened us ≡ false) (dot_first ts rest e) over)

array_over : (dotted opened : Bool) (ts inner rest : List Token) → goes_on_type dotted opened ts ≡ false → after_opening ts ≡ Some inner
    → after_closing inner ≡ Some rest → opened ≡ false
array_over dotted opened ts inner rest over e f =
    let first = opening_first ts inner e ∙ ap (λ us. opening ∷ us) (closing_first inner rest f) in
    no_array dotted opened rest (subst (λ us. goes_on_type dotted opened us ≡ false) first over)

pub created_ready : (dotted : Bool) (ts : List Token) → goes_on_type dotted false ts ≡ false → after_opening ts ≡ None
    → Ready (created dotted) ts
created_ready dotted ts over no_opening = record {
  member = λ rest e. member_over dotted false ts rest over e;
  no_arguments = λ inner rest e f. cc;
  arguments = λ inner e y ys. cc;
}

pub tested_ready : (dotted opened : Bool) (ts : List Token) → goes_on_type dotted opened ts ≡ false → Ready (tested dotted opened) ts
tested_ready dotted opened ts over = record {
  member = λ rest e. member_over dotted opened ts rest over e;
  no_arguments = λ inner rest e f. array_over dotted opened ts inner rest over e f;
  arguments = λ inner e y ys. refl;
}

-- LISTS

pub list_empty : ListBegun [] []
list_empty = record { goes_on = λ l. l }

pub list_longer : {h w : ℕ} {ts us : List Token} {xs : List Expr} {x : Expr} → ListBegun ts xs → Spells h w us x
    → ListBegun (ts ++ (us ++ comma ∷ [])) (xs ++ x ∷ [])
list_longer {h} {w} {ts} {us} {xs} {x} b s = record {
  goes_on = λ {us = vs} {ys} l. simp append_assoc (b.goes_on (more s l));
}

pub list_whole : {h w : ℕ} {ts us : List Token} {xs : List Expr} {x : Expr} → ListBegun ts xs → Spells h w us x
    → SpellsList (ts ++ us) (xs ++ x ∷ [])
list_whole b s = b.goes_on (one s)

pub elements_empty : ElementsBegun [] []
elements_empty = record { goes_on = λ l. l }

pub elements_longer : {ts us : List Token} {is : List VariableInitializer} {i : VariableInitializer} → ElementsBegun ts is
    → SpellsInitializer us i
    → ElementsBegun (ts ++ (us ++ comma ∷ [])) (is ++ i ∷ [])
elements_longer {ts} {us} {is} {i} b s = record {
  goes_on = λ {us = vs} {js} l. simp append_assoc (b.goes_on (more_initializers s l));
}

pub elements_whole : {ts us : List Token} {is : List VariableInitializer} {i : VariableInitializer} → ElementsBegun ts is
    → SpellsInitializer us i
    → SpellsInitializers (ts ++ us) (is ++ i ∷ [])
elements_whole b s = b.goes_on (one_initializer s)

-- FROM STATE TO STATE

-- the last of what waits is taken off, and its tokens are to be read again
pub record Back (goal : Goal) (all : List Token) (vs : List Pending) (p : Pending) (rest : List Token) : Type 0 where
  pub part : List Token
  pub wanting : Wanting goal all vs (part ++ rest)
  pub placed : IsPlaced goal vs p
  pub read : IsReadFrom p part

module _ (goal : Goal) (all : List Token) where
  pub back : (ws vs : List Pending) (p : Pending) (rest : List Token) → Wanting goal all ws rest → popped ws ≡ Some (vs, p)
      → Back goal all vs p rest
  back ws vs p rest w was =
      let last = last_waits ws vs p w.waits was in
      record {
        part = last.part;
        wanting = record {
          used = last.before;
          split = w.split ∙ ap (λ us. us ++ rest) last.split ∙ append_assoc last.before last.part rest;
          waits = last.waits;
        };
        placed = last.placed;
        read = last.read;
      }

  pub waiting_from : (ws : List Pending) (ts : List Token) (p : Pending) (part rest : List Token) → Wanting goal all ws ts
      → ts ≡ part ++ rest
      → IsPlaced goal ws p → IsReadFrom p part → Wanting goal all (ws ++ p ∷ []) rest
  waiting_from ws ts p part rest w e placed read = record {
    used = w.used ++ part;
    split = w.split ∙ ap (λ us. w.used ++ us) e ∙ sym (append_assoc w.used part rest);
    waits = one_more_waits p part w.waits placed read;
  }

  pub primary_from : {edge : Edge} (ws : List Pending) (ts : List Token) (x : Expr) (part rest : List Token) → Wanting goal all ws ts
      → ts ≡ part ++ rest
      → SpellsPrimary edge part x → Ready edge rest → HasPrimary goal all ws x rest
  primary_from {edge} ws ts x part rest w e spells ready = record {
    used = w.used;
    part = part;
    edge = edge;
    split = w.split ∙ ap (λ us. w.used ++ us) e;
    waits = w.waits;
    spells = spells;
    ready = ready;
  }

  pub braces_from : (ws : List Pending) (ts : List Token) (is : List VariableInitializer) (part rest : List Token) → Wanting goal all ws ts
      → ts ≡ part ++ rest → SpellsElements part is → wants_element goal ws ≡ true → HasBraces goal all ws is rest
  braces_from ws ts is part rest w e spells placed = record {
    used = w.used;
    part = part;
    split = w.split ∙ ap (λ us. w.used ++ us) e;
    waits = w.waits;
    spells = spells;
    placed = placed;
  }
