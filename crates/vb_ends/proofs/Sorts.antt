-- Sorts of one number are one.
use Rattle.std.proofs.Common.{◌≡◌, ◌≢◌, true, false, List, [], ◌∷◌, get_or, refl, sym, ◌∙◌, ap, eq-eqb, arith}
use Rattle.std.proofs.lemmas.Grind.{common_steps}
use Rattle.vb_ends.specs.{declared.role.Sort.Sort, Counts.{number, same_sort}}
use Rattle.vb_ends.specs.declared.role.Sort.TheVariants as sort

sorts : List Sort
sorts = sort.If ∷ sort.While ∷ sort.Do ∷ sort.For ∷ sort.Select ∷ sort.Try ∷ sort.SyncLock ∷ sort.With ∷ sort.Using ∷ sort.Sub ∷ sort.Function ∷ sort.Property ∷ sort.Get ∷ sort.Set ∷ sort.Event ∷ sort.AddHandler ∷ sort.RemoveHandler ∷ sort.RaiseEvent ∷ sort.Module ∷ sort.Class ∷ sort.Interface ∷ []

numbered : (s : Sort) → get_or sorts (number s) sort.If ≡ s
unfolding sorts
numbered sort.If = refl
numbered sort.While = refl
numbered sort.Do = refl
numbered sort.For = refl
numbered sort.Select = refl
numbered sort.Try = refl
numbered sort.SyncLock = refl
numbered sort.With = refl
numbered sort.Using = refl
numbered sort.Sub = refl
numbered sort.Function = refl
numbered sort.Property = refl
numbered sort.Get = refl
numbered sort.Set = refl
numbered sort.Event = refl
numbered sort.AddHandler = refl
numbered sort.RemoveHandler = refl
numbered sort.RaiseEvent = refl
numbered sort.Module = refl
numbered sort.Class = refl
numbered sort.Interface = refl

pub same_is : (a b : Sort) → same_sort a b ≡ true → a ≡ b
same_is a b e = sym (numbered a) ∙ ap (λ n. get_or sorts n sort.If) (let equal : number a ≡ number b = grind (arith, common_steps) in equal) ∙ numbered b

pub same_self : (a b : Sort) → a ≡ b → same_sort a b ≡ true
same_self a b e = eq-eqb (number a) (number b) (ap number e)

pub same_not : (a b : Sort) → same_sort a b ≡ false → a ≡ b → ⊥
same_not a b e same = let yes = same_self a b same in cc

pub number_not : (a b : Sort) → same_sort a b ≡ false → number b ≢ number a
number_not a b e = λ same. let yes_ = eq-eqb (number a) (number b) (sym same) in cc
