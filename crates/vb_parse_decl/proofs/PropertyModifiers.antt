-- The modifiers of a property as they are written, and as the tree keeps them.
use Rattle.std.proofs.Common.{◌≡◌, Bool, true, false, List, [], ◌∷◌, ◌++◌, refl, sym, ap, ◌∙◌, append_assoc}
use Rattle.std.specs.Prelude.{if◌then◌else◌, not}
use Rattle.std.proofs.lemmas.Bool.{both_ways}
use Rattle.vb_syntax.specs.declared.{keyword.Keyword.Keyword, declaration.{Modifier.Modifier, PropertyKind.PropertyKind}}
use Rattle.vb_syntax.specs.declared.keyword.Keyword.TheVariants as word
use Rattle.vb_syntax.specs.declared.declaration.Modifier.TheVariants as modifier
use Rattle.vb_syntax.specs.declared.declaration.PropertyKind.TheVariants as property
use Rattle.vb_parse_decl.specs.{DeclarationLines.{has_read_only, ArePropertyModifiers, property_words}, ModifierReading.{is_last_read_only, without_last, split_where, property_split}}

-- THE LAST `ReadOnly`

none_last : (ms : List Modifier) → has_read_only ms ≡ false → without_last ms ≡ ms
unfolding without_last
none_last [] e = refl
none_last (modifier.ReadOnly ∷ ms) e = absurd cc
none_last (m ∷ ms) e = ap (λ (xs : List Modifier). m ∷ xs) (none_last ms e)

-- A TURN

stays_where : (b : Bool) (m : Modifier) (kept ms : List Modifier) → b ≡ false → (kept ++ m ∷ []) ++ without_last ms ≡ kept ++ (if b then without_last ms else m ∷ without_last ms)
stays_where b m kept ms e =
    append_assoc kept (m ∷ []) (without_last ms) ∙ ap (λ (c : Bool). kept ++ (if c then without_last ms else m ∷ without_last ms)) (sym e)

pub turn_stays : (m : Modifier) (kept ms : List Modifier) → is_last_read_only m ms ≡ false → (kept ++ m ∷ []) ++ without_last ms ≡ kept ++ without_last (m ∷ ms)
unfolding without_last
turn_stays m kept ms e = stays_where (is_last_read_only m ms) m kept ms e

pub turn_drops : (m : Modifier) (kept ms : List Modifier) → is_last_read_only m ms ≡ true → kept ++ without_last ms ≡ kept ++ without_last (m ∷ ms)
unfolding without_last
turn_drops m kept ms e = ap (λ (c : Bool). kept ++ (if c then without_last ms else m ∷ without_last ms)) (sym e)

-- one in front of it stays
not_last : (m : Modifier) (ms : List Modifier) → has_read_only ms ≡ true → without_last (m ∷ ms) ≡ m ∷ without_last ms
unfolding without_last
not_last modifier.ReadOnly ms e = ap (λ (b : Bool). if not b then without_last ms else modifier.ReadOnly ∷ without_last ms) e
not_last m ms e = refl

is_last : (ms : List Modifier) → has_read_only ms ≡ false → without_last (modifier.ReadOnly ∷ ms) ≡ ms
unfolding without_last
is_last ms e = ap (λ (b : Bool). if not b then without_last ms else modifier.ReadOnly ∷ without_last ms) e ∙ none_last ms e

has_among : (before after : List Modifier) → has_read_only (before ++ modifier.ReadOnly ∷ after) ≡ true
has_among [] after = refl
has_among (modifier.ReadOnly ∷ before) after = refl
has_among (m ∷ before) after = has_among before after

-- WHAT IS WRITTEN IS READ

cut_reads : (before after : List Modifier) → has_read_only after ≡ false → without_last (before ++ modifier.ReadOnly ∷ after) ≡ before ++ after
cut_reads [] after none = is_last after none
cut_reads (m ∷ before) after none =
    not_last m (before ++ modifier.ReadOnly ∷ after) (has_among before after) ∙ ap (λ (xs : List Modifier). m ∷ xs) (cut_reads before after none)

pub read_only_split : (ms all : List Modifier) → ArePropertyModifiers ms property.ReadOnly all → property_split all ≡ (ms, property.ReadOnly)
read_only_split ms all (before, after, is, kept, none) =
    ap property_split is ∙ ap (λ (b : Bool). split_where b (before ++ modifier.ReadOnly ∷ after)) (has_among before after)
    ∙ ap (λ (xs : List Modifier). (xs, property.ReadOnly)) (cut_reads before after none ∙ sym kept)

pub read_write_split : (ms all : List Modifier) → ArePropertyModifiers ms property.ReadWrite all → property_split all ≡ (ms, property.ReadWrite)
read_write_split ms all (kept, none) = ap (λ (b : Bool). split_where b all) none ∙ ap (λ (xs : List Modifier). (xs, property.ReadWrite)) (sym kept)

-- WHAT IS READ IS WRITTEN

cut_at : (m : Modifier) (ms : List Modifier) (b : Bool) → has_read_only ms ≡ b → has_read_only (m ∷ ms) ≡ true
    → (has_read_only ms ≡ true → ArePropertyModifiers (without_last ms) property.ReadOnly ms) → ArePropertyModifiers (without_last (m ∷ ms)) property.ReadOnly (m ∷ ms)
cut_at m ms true was e again =
    let f = again was in
    (m ∷ f.0, f.1, ap (λ (xs : List Modifier). m ∷ xs) f.2, not_last m ms was ∙ ap (λ (xs : List Modifier). m ∷ xs) f.3, f.4)
cut_at modifier.ReadOnly ms false was e again = ([], ms, refl, is_last ms was, was)
cut_at m ms false was e again = absurd (both_ways (has_read_only ms) was e)

cut_found : (ms : List Modifier) → has_read_only ms ≡ true → ArePropertyModifiers (without_last ms) property.ReadOnly ms
cut_found [] e = absurd cc
cut_found (m ∷ ms) e = cut_at m ms (has_read_only ms) refl e (cut_found ms)

pub record SplitModifiers (all : List Modifier) (p : List Modifier × PropertyKind) : Type 0 where
  pub are : ArePropertyModifiers p.0 p.1 all
  pub plain : property_words p.1 ≡ word.Property ∷ []

split_at : (all : List Modifier) (b : Bool) → has_read_only all ≡ b → SplitModifiers all (split_where b all)
split_at all true e = record { are = cut_found all e; plain = refl }
split_at all false e = record { are = (refl, e); plain = refl }

pub split_found : (all : List Modifier) → SplitModifiers all (property_split all)
split_found all = split_at all (has_read_only all) refl
