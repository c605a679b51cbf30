-- The innermost open block is an interface's just where the innermost frame is one.
use Rattle.std.proofs.Common.{◌≡◌, ℕ, Bool, true, false, List, [], ◌∷◌, map, Option, Some, None, refl, sym, ap, ◌∙◌, eq-eqb, if◌then◌else◌}
use Rattle.vb_syntax.specs.declared.item.{EventAccessorKind.EventAccessorKind, Item.Item, Row.Row}
use Rattle.vb_syntax.specs.declared.item.EventAccessorKind.TheVariants as accessor
use Rattle.vb_syntax.specs.declared.item.DeclarationLine.TheVariants as header
use Rattle.vb_syntax.specs.declared.item.Item.TheVariants as item
use Rattle.vb_ends.specs.{declared.role.{Sort.Sort, Mark.Mark}, Counts.{number, same_sort}, Enders.{Block, is_statement}, OpenBlocks.{around, or_all, open_blocks, innermost_is, in_interface}, Roles.{accessor_sort, AreOpenBehind, nothing, opens, ends, stays}}
use Rattle.vb_ends.specs.declared.role.Sort.TheVariants as sort
use Rattle.vb_blocks.specs.{declared.{scope.Scope.Scope, frame.{Frame.Frame, TypeHeader.TypeHeader}}, Steps.{body, opened, member_opened}}
use Rattle.vb_blocks.specs.declared.scope.Scope.TheVariants as scope
use Rattle.vb_blocks.specs.declared.frame.Frame.TheVariants as frame
use Rattle.vb_blocks.specs.declared.frame.TypeHeader.TheVariants as type_header
use Rattle.vb_tree.proofs.Sorts.{enclosed_sort, procedure_sort, scope_sort, type_sort, frame_sort, grown, open_sorts, is_interface, is_line_frame}
use Rattle.vb_tree.proofs.Standing.{
  a_file,
  kind_of,
  takes,
  IsFront,
  front_enclosed,
  front_if,
  front_else_if,
  front_else,
  front_case,
  front_case_else,
  front_try,
  front_catch,
  front_finally,
  front_procedure,
  front_get,
  front_set,
  front_event,
  Stands,
  stands_body,
  stands_line,
  stands_select,
  stands_property,
  stands_event,
  stands_members,
  stands_interface,
  stands_file,
  Holds,
  bottom,
  inside,
}

-- WHERE EACH ENDER CLOSES THE INNERMOST BLOCK

abbrev sorts_of : List Block → List Sort
sorts_of bs = map (λ b. b.sort) bs

same_self : (a b : Sort) → a ≡ b → same_sort a b ≡ true
same_self a b e = eq-eqb (number a) (number b) (ap number e)

closed_first : (s : Sort) (b : Block) (bs : List Block) → b.sort ≡ s → or_all (around s (b ∷ bs)) (b ∷ bs) ≡ bs
closed_first s b bs e = ap (λ (v : Bool). or_all (if v then Some bs else if is_statement s then None else around s bs) (b ∷ bs)) (same_self b.sort s e)

ended_sorts : (s : Sort) (ss : List Sort) (bs : List Block) → sorts_of bs ≡ s ∷ ss → sorts_of (or_all (around s bs) bs) ≡ ss
ended_sorts s ss [] e = absurd cc
ended_sorts s ss (b ∷ bs) e =
    let here : b.sort ≡ s = cc in
    let behind : sorts_of bs ≡ ss = cc in ap sorts_of (closed_first s b bs here) ∙ behind

sorts_are : {marks : List Mark} {ss : List Sort} → AreOpenBehind marks ss → sorts_of (open_blocks marks) ≡ ss
sorts_are nothing = refl
sorts_are (opens s line a) = ap (λ (rest : List Sort). s ∷ rest) (sorts_are a)
sorts_are (ends {marks = marks} {ss = ss} s line a) = ended_sorts s ss (open_blocks marks) (sorts_are a)
sorts_are (stays line a) = sorts_are a

abbrev pub first_is : Sort → List Sort → Bool
first_is s [] = false
first_is s (o ∷ os) = same_sort o s

innermost_sorts : (s : Sort) (bs : List Block) → innermost_is s bs ≡ first_is s (sorts_of bs)
innermost_sorts s [] = refl
innermost_sorts s (b ∷ bs) = refl

pub inside_by : {marks : List Mark} {ss : List Sort} → AreOpenBehind marks ss → in_interface marks ≡ first_is sort.Interface ss
inside_by {marks = marks} a = innermost_sorts sort.Interface (open_blocks marks) ∙ ap (first_is sort.Interface) (sorts_are a)

-- WHAT A FRAME IS

-- of a sort that is no interface's
record IsOther (o : Option Sort) : Type 0 where
  pub one : Sort
  pub is : o ≡ Some one
  pub differs : same_sort one sort.Interface ≡ false

enclosed_other : (line : ℕ) (x : Item) → opened line x ≡ Some (body (scope.Enclosed line x)) → IsOther (enclosed_sort x)
enclosed_other line (item.While a) e = record { one = sort.While; is = refl; differs = refl }
enclosed_other line (item.Do a) e = record { one = sort.Do; is = refl; differs = refl }
enclosed_other line (item.For a b c d) e = record { one = sort.For; is = refl; differs = refl }
enclosed_other line (item.ForEach a b) e = record { one = sort.For; is = refl; differs = refl }
enclosed_other line (item.SyncLock a) e = record { one = sort.SyncLock; is = refl; differs = refl }
enclosed_other line (item.With a) e = record { one = sort.With; is = refl; differs = refl }
enclosed_other line (item.Using a) e = record { one = sort.Using; is = refl; differs = refl }
enclosed_other line x e = absurd cc

procedure_other : (line : ℕ) (x : Item) → member_opened line x ≡ Some (body (scope.Procedure line x)) → IsOther (procedure_sort x)
procedure_other line (item.Declares (header.Sub ms s is_)) e = record { one = sort.Sub; is = refl; differs = refl }
procedure_other line (item.Declares (header.Constructor ms ps is_)) e = record { one = sort.Sub; is = refl; differs = refl }
procedure_other line (item.Declares (header.Function ms k s t is_)) e = record { one = sort.Function; is = refl; differs = refl }
procedure_other line x e = absurd cc

accessor_other : (k : EventAccessorKind) → IsOther (Some (accessor_sort k))
accessor_other accessor.AddHandler = record { one = sort.AddHandler; is = refl; differs = refl }
accessor_other accessor.RemoveHandler = record { one = sort.RemoveHandler; is = refl; differs = refl }
accessor_other accessor.RaiseEvent = record { one = sort.RaiseEvent; is = refl; differs = refl }

type_other : (h : TypeHeader) → same_sort (type_sort h) sort.Interface ≡ false
type_other (type_header.Module l a n) = refl
type_other (type_header.Class p) = refl

front_other : {sc : Scope} {rows : List Row} → IsFront sc rows → IsOther (scope_sort sc)
front_other (front_enclosed {line = line} {x = x} e) = enclosed_other line x e
front_other front_if = record { one = sort.If; is = refl; differs = refl }
front_other (front_else_if p) = record { one = sort.If; is = refl; differs = refl }
front_other (front_else p) = record { one = sort.If; is = refl; differs = refl }
front_other (front_case p) = record { one = sort.Select; is = refl; differs = refl }
front_other (front_case_else p) = record { one = sort.Select; is = refl; differs = refl }
front_other front_try = record { one = sort.Try; is = refl; differs = refl }
front_other (front_catch p) = record { one = sort.Try; is = refl; differs = refl }
front_other (front_finally p) = record { one = sort.Try; is = refl; differs = refl }
front_other (front_procedure {line = line} {x = x} bare e) = procedure_other line x e
front_other front_get = record { one = sort.Get; is = refl; differs = refl }
front_other front_set = record { one = sort.Set; is = refl; differs = refl }
front_other (front_event {k = k}) = accessor_other k

body_other : (o : Option Sort) (ss : List Sort) → IsOther o → first_is sort.Interface (grown o ss) ≡ false
body_other o ss i = ap (λ (v : Option Sort). first_is sort.Interface (grown v ss)) i.is ∙ i.differs

stands_inside : (f : Frame) (fs : List Frame) (rows : List Row) → Stands f rows → is_line_frame f ≡ false → (kind_of f ≡ a_file → fs ≡ []) → first_is sort.Interface (open_sorts (f ∷ fs)) ≡ is_interface f
stands_inside (frame.Body sc ss) fs rows (stands_body l fr d) out alone = body_other (scope_sort sc) (open_sorts fs) (front_other fr)
stands_inside f fs rows (stands_line fr d) out alone = absurd cc
stands_inside f fs rows stands_select out alone = refl
stands_inside f fs rows (stands_property free g s) out alone = refl
stands_inside f fs rows (stands_event i) out alone = refl
stands_inside f fs rows (stands_members {h = h} fr d) out alone = type_other h
stands_inside f fs rows (stands_interface ls d) out alone = refl
stands_inside f fs rows (stands_file a b c) out alone = ap (λ (v : List Frame). first_is sort.Interface (open_sorts v)) (alone refl)

-- a file stands in nothing
takes_no_file : (g : Frame) → takes g a_file ≡ true → ⊥
takes_no_file (frame.Body s ss) t = cc
takes_no_file (frame.Property p) t = cc
takes_no_file (frame.Event e) t = cc
takes_no_file (frame.Members h ms) t = cc
takes_no_file (frame.File p) t = cc
takes_no_file g t = cc

pub holds_inside : (f : Frame) (fs : List Frame) (rows : List Row) → Holds f fs rows → is_line_frame f ≡ false → first_is sort.Interface (open_sorts (f ∷ fs)) ≡ is_interface f
holds_inside f [] rows (bottom k s) out = stands_inside f [] _ s out (λ file. refl)
holds_inside f (g ∷ gs) rows (inside i t s) out =
    stands_inside f (g ∷ gs) _ s out (λ file. absurd (takes_no_file g (sym (ap (takes g) file) ∙ t)))
