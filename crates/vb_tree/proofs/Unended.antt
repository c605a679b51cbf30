-- Where the rows of a file lead to its end and are no tree, a block is open behind them.
use Rattle.std.proofs.Common.{◌≡◌, ℕ, true, List, [], ◌∷◌, reverse, Option, Some, None, refl, ap, ◌∙◌, subst}
use Rattle.vb_syntax.specs.declared.item.Row.{Row}
use Rattle.vb_ends.specs.{declared.role.Sort.Sort, Roles.{marks_of, AreOpenBehind}}
use Rattle.vb_ends.specs.declared.role.Sort.TheVariants as sort
use Rattle.vb_blocks.specs.{declared.{frame.{Frame.Frame, FileParts.FileParts}, scope.{Scope.Scope, AccessorHeader.AccessorHeader}}, Steps.{State, run, start, finished}}
use Rattle.vb_blocks.specs.declared.frame.Frame.TheVariants as frame
use Rattle.vb_blocks.specs.declared.scope.Scope.TheVariants as scope
use Rattle.vb_blocks.specs.declared.scope.AccessorHeader.TheVariants as accessor_header
use Rattle.vb_tree.proofs.{Standing.{Kind, a_type, a_file, kind_of, scope_kind, takes, Holds, bottom, inside}, Holding.scope_no_file, Building.rows_hold, Sorts.{type_sort, frame_sort, grown, open_sorts}, Linking.rows_link}

-- behind all rows, the blocks that are open are the frames that the rows lead to
pub open_behind : (rows : List Row) (st : State) → run rows start [] ≡ Some st → AreOpenBehind (marks_of None (reverse rows)) (open_sorts (st.0 ∷ st.1))
open_behind rows st e = let l = rows_link rows st e in l.blocks None st refl

-- a frame is a block
pub record HasBlock (fs : List Frame) : Type 0 where
  pub first : Sort
  pub others : List Sort
  pub are : open_sorts fs ≡ first ∷ others

has_grown : (f : Frame) (fs : List Frame) (o : Option Sort) → frame_sort f ≡ o → HasBlock fs → HasBlock (f ∷ fs)
has_grown f fs None e b = record { first = b.first; others = b.others; are = ap (λ (v : Option Sort). grown v (open_sorts fs)) e ∙ b.are }
has_grown f fs (Some s) e b = record { first = s; others = open_sorts fs; are = ap (λ (v : Option Sort). grown v (open_sorts fs)) e }

-- only types stand in a file
file_takes : (p : FileParts) (k : Kind) → takes (frame.File p) k ≡ true → k ≡ a_type
file_takes p a_type t = refl
file_takes p k t = absurd cc

accessor_no_type : (h : AccessorHeader) → scope_kind (scope.Accessor h) ≡ a_type → ⊥
accessor_no_type (accessor_header.Get l a) e = cc
accessor_no_type (accessor_header.Set l a ps) e = cc
accessor_no_type (accessor_header.Event l k ps) e = cc

scope_no_type : (sc : Scope) → scope_kind sc ≡ a_type → ⊥
scope_no_type (scope.Accessor h) e = accessor_no_type h e
scope_no_type sc e = cc

type_block : (f : Frame) (fs : List Frame) → kind_of f ≡ a_type → HasBlock (f ∷ fs)
type_block (frame.Body sc ss) fs k = absurd (scope_no_type sc k)
type_block (frame.Members h ms) fs k = record { first = type_sort h; others = open_sorts fs; are = refl }
type_block (frame.Interface p) fs k = record { first = sort.Interface; others = open_sorts fs; are = refl }
type_block f fs k = absurd cc

in_file_block : (f g : Frame) (fs : List Frame) → kind_of g ≡ a_file → takes g (kind_of f) ≡ true → HasBlock (f ∷ fs)
in_file_block f (frame.File p) fs k t = type_block f fs (file_takes p (kind_of f) t)
in_file_block f (frame.Body sc ss) fs k t = absurd (scope_no_file sc k)
in_file_block f g fs k t = absurd cc

has_block : (fs : List Frame) (f g : Frame) (rows : List Row) → Holds f (g ∷ fs) rows → HasBlock (f ∷ g ∷ fs)
has_block [] f g rows (inside (bottom k s) t u) = in_file_block f g (g ∷ []) k t
has_block (h ∷ fs) f g rows (inside {rows = a} i t u) = has_grown f (g ∷ h ∷ fs) (frame_sort f) refl (has_block fs g h a i)

whole_file : (n : ℕ) (f : Frame) → kind_of f ≡ a_file → finished n f [] ≡ None → ⊥
whole_file n (frame.File p) k none = cc
whole_file n (frame.Body sc ss) k none = scope_no_file sc k
whole_file n f k none = cc

unfinished_block : (n : ℕ) (f : Frame) (fs : List Frame) (rows : List Row) → Holds f fs rows → finished n f fs ≡ None → HasBlock (f ∷ fs)
unfinished_block n f [] rows (bottom k s) none = absurd (whole_file n f k none)
unfinished_block n f (g ∷ fs) rows h none = has_block fs f g rows h

-- THE END OF A FILE

module _ (rows : List Row) (st : State) (so_far : run rows start [] ≡ Some st) where
  -- where a frame is a block, one is open
  pub block_open : HasBlock (st.0 ∷ st.1) → (s : Sort) × (ss : List Sort) × AreOpenBehind (marks_of None (reverse rows)) (s ∷ ss)
  block_open b = (b.first, b.others, subst (λ (ss : List Sort). AreOpenBehind (marks_of None (reverse rows)) ss) b.are (open_behind rows st so_far))

  -- where the frames aren't one whole file, a block is open
  pub unended : (n : ℕ) → finished n st.0 st.1 ≡ None → (s : Sort) × (ss : List Sort) × AreOpenBehind (marks_of None (reverse rows)) (s ∷ ss)
  unended n none = block_open (unfinished_block n st.0 st.1 rows (rows_hold rows st so_far) none)
