-- Modifiers are read as they are spelled.
use Rattle.std.proofs.Common.{◌≡◌, ℕ, zero, suc, ◌≤◌, ◌<◌, Bool, true, false, List, [], ◌∷◌, ◌++◌, length, Option, Some, None, refl, sym, ap, subst, ◌∙◌, arith, append_assoc, append-nil}
use Rattle.vb_syntax.specs.declared.{keyword.Keyword.Keyword, tokens.Token.Token, declaration.Modifier.Modifier}
use Rattle.vb_syntax.specs.declared.keyword.Keyword.TheVariants as word
use Rattle.vb_syntax.specs.declared.tokens.Token.TheVariants as token
use Rattle.vb_syntax.specs.declared.declaration.Access.TheVariants as access
use Rattle.vb_syntax.specs.declared.declaration.Modifier.TheVariants as modifier
use Rattle.vb_parse_expr.specs.TypeReading.{Read}
use Rattle.vb_parse_expr.proofs.TypeNames.{parts_of}
use Rattle.vb_parse_decl.specs.{Parts.{reserved, Begins, Words}, Declarations.{modifier_words, PartsPair, Modified}, ModifierReading.{word_modifier, modifier_before, after_protected_friend, first_word, one_or_word, first_modifier, modifier_on, modifiers_from, read_modifiers}}
use Rattle.vb_parse_decl.proofs.ModifierTurns.{goes}

-- THE FIRST MODIFIER

begins_friend : List Token → Bool
begins_friend (token.Keyword word.Friend ∷ ts) = true
begins_friend ts = false

first_public : (us : List Token) → first_modifier (reserved word.Public ∷ us) ≡ Some (modifier.Access access.Public, us)
unfolding first_modifier after_protected_friend first_word
first_public us = refl

first_private : (us : List Token) → first_modifier (reserved word.Private ∷ us) ≡ Some (modifier.Access access.Private, us)
unfolding first_modifier after_protected_friend first_word
first_private us = refl

first_friend : (us : List Token) → first_modifier (reserved word.Friend ∷ us) ≡ Some (modifier.Access access.Friend, us)
unfolding first_modifier after_protected_friend first_word
first_friend us = refl

first_shared : (us : List Token) → first_modifier (reserved word.Shared ∷ us) ≡ Some (modifier.Shared, us)
unfolding first_modifier after_protected_friend first_word
first_shared us = refl

first_overridable : (us : List Token) → first_modifier (reserved word.Overridable ∷ us) ≡ Some (modifier.Overridable, us)
unfolding first_modifier after_protected_friend first_word
first_overridable us = refl

first_overrides : (us : List Token) → first_modifier (reserved word.Overrides ∷ us) ≡ Some (modifier.Overrides, us)
unfolding first_modifier after_protected_friend first_word
first_overrides us = refl

first_mustoverride : (us : List Token) → first_modifier (reserved word.MustOverride ∷ us) ≡ Some (modifier.MustOverride, us)
unfolding first_modifier after_protected_friend first_word
first_mustoverride us = refl

first_notoverridable : (us : List Token) → first_modifier (reserved word.NotOverridable ∷ us) ≡ Some (modifier.NotOverridable, us)
unfolding first_modifier after_protected_friend first_word
first_notoverridable us = refl

first_overloads : (us : List Token) → first_modifier (reserved word.Overloads ∷ us) ≡ Some (modifier.Overloads, us)
unfolding first_modifier after_protected_friend first_word
first_overloads us = refl

first_shadows : (us : List Token) → first_modifier (reserved word.Shadows ∷ us) ≡ Some (modifier.Shadows, us)
unfolding first_modifier after_protected_friend first_word
first_shadows us = refl

first_readonly : (us : List Token) → first_modifier (reserved word.ReadOnly ∷ us) ≡ Some (modifier.ReadOnly, us)
unfolding first_modifier after_protected_friend first_word
first_readonly us = refl

first_protected : (us : List Token) → begins_friend us ≡ false → first_modifier (reserved word.Protected ∷ us) ≡ Some (modifier.Access access.Protected, us)
unfolding first_modifier after_protected_friend first_word begins_friend
first_protected [] e = refl
first_protected (token.Keyword word.Friend ∷ us) e = absurd cc
first_protected (t ∷ us) e = refl

first_both : (us : List Token) → first_modifier (reserved word.Protected ∷ reserved word.Friend ∷ us) ≡ Some (modifier.Access access.ProtectedFriend, us)
unfolding first_modifier after_protected_friend
first_both us = refl

friend_first : (us : List Token) → begins_friend us ≡ true → (vs : List Token) × (us ≡ reserved word.Friend ∷ vs)
unfolding begins_friend
friend_first (token.Keyword word.Friend ∷ us) e = (us, refl)
friend_first us e = absurd cc

not_friend : (us vs : List Token) (w : Keyword) → us ≡ reserved w ∷ vs → begins_friend (reserved w ∷ vs) ≡ false → begins_friend us ≡ false
unfolding begins_friend
not_friend us vs w e f = ap begins_friend e ∙ f

stopped_friend : (us : List Token) (b : Bool) → begins_friend us ≡ b → first_modifier us ≡ None → begins_friend us ≡ false
stopped_friend us false was e = was
stopped_friend us true was e =
    let f = friend_first us was in
    let there : first_modifier us ≡ Some (modifier.Access access.Friend, f.0) = ap first_modifier f.1 ∙ first_friend f.0 in
    absurd cc

-- WHAT STANDS THERE IS READ

module _ (Behind : List Token → Type 0) (stops : (us : List Token) → Behind us → first_modifier us ≡ None) where
  no_friend : (ms : List Modifier) (us : List Token) → (PartsPair (modifier.Access access.Protected ∷ ms) → ⊥) → Modified ms Behind us → begins_friend us ≡ false
  unfolding begins_friend
  no_friend [] us apart p = stopped_friend us (begins_friend us) refl (stops us p)
  no_friend (modifier.Access access.Friend ∷ ms) us apart p = absurd (apart tt)
  no_friend (modifier.Access access.Protected ∷ ms) us apart p = not_friend us p.1.0 word.Protected p.1.1 refl
  no_friend (modifier.Access access.ProtectedFriend ∷ ms) us apart p = not_friend us p.1.0 word.Protected p.1.1 refl
  no_friend ((modifier.Access access.Public) ∷ ms) us apart p = not_friend us p.1.0 word.Public p.1.1 refl
  no_friend ((modifier.Access access.Private) ∷ ms) us apart p = not_friend us p.1.0 word.Private p.1.1 refl
  no_friend (modifier.Shared ∷ ms) us apart p = not_friend us p.1.0 word.Shared p.1.1 refl
  no_friend (modifier.Overridable ∷ ms) us apart p = not_friend us p.1.0 word.Overridable p.1.1 refl
  no_friend (modifier.Overrides ∷ ms) us apart p = not_friend us p.1.0 word.Overrides p.1.1 refl
  no_friend (modifier.MustOverride ∷ ms) us apart p = not_friend us p.1.0 word.MustOverride p.1.1 refl
  no_friend (modifier.NotOverridable ∷ ms) us apart p = not_friend us p.1.0 word.NotOverridable p.1.1 refl
  no_friend (modifier.Overloads ∷ ms) us apart p = not_friend us p.1.0 word.Overloads p.1.1 refl
  no_friend (modifier.Shadows ∷ ms) us apart p = not_friend us p.1.0 word.Shadows p.1.1 refl
  no_friend (modifier.ReadOnly ∷ ms) us apart p = not_friend us p.1.0 word.ReadOnly p.1.1 refl

  record FirstIs (m : Modifier) (ms : List Modifier) (ts : List Token) : Type 0 where
    us : List Token
    first : first_modifier ts ≡ Some (m, us)
    behind : Modified ms Behind us
    fewer : length us < length ts

  one_word : (w : Keyword) (m : Modifier) (ms : List Modifier) (ts : List Token) → ((us : List Token) → first_modifier (reserved w ∷ us) ≡ Some (m, us))
      → Begins w (Modified ms Behind) ts → FirstIs m ms ts
  one_word w m ms ts first (us, is, p) = record {
    us = us;
    first = ap first_modifier is ∙ first us;
    behind = p;
    fewer = omega (arith, ap length is);
  }

  first_is : (m : Modifier) (ms : List Modifier) (ts : List Token) → (PartsPair (m ∷ ms) → ⊥) → Words (modifier_words m) (Modified ms Behind) ts → FirstIs m ms ts
  first_is (modifier.Access access.Protected) ms ts apart (us, is, p) = record {
    us = us;
    first = ap first_modifier is ∙ first_protected us (no_friend ms us apart p);
    behind = p;
    fewer = omega (arith, ap length is);
  }
  first_is (modifier.Access access.ProtectedFriend) ms ts apart (us, is, (vs, is2, p)) = record {
    us = vs;
    first = ap first_modifier (is ∙ ap (λ ws. reserved word.Protected ∷ ws) is2) ∙ first_both vs;
    behind = p;
    fewer = omega (arith, ap length is, ap length is2);
  }
  first_is (modifier.Access access.Public) ms ts apart p = one_word word.Public (modifier.Access access.Public) ms ts first_public p
  first_is (modifier.Access access.Private) ms ts apart p = one_word word.Private (modifier.Access access.Private) ms ts first_private p
  first_is (modifier.Access access.Friend) ms ts apart p = one_word word.Friend (modifier.Access access.Friend) ms ts first_friend p
  first_is modifier.Shared ms ts apart p = one_word word.Shared modifier.Shared ms ts first_shared p
  first_is modifier.Overridable ms ts apart p = one_word word.Overridable modifier.Overridable ms ts first_overridable p
  first_is modifier.Overrides ms ts apart p = one_word word.Overrides modifier.Overrides ms ts first_overrides p
  first_is modifier.MustOverride ms ts apart p = one_word word.MustOverride modifier.MustOverride ms ts first_mustoverride p
  first_is modifier.NotOverridable ms ts apart p = one_word word.NotOverridable modifier.NotOverridable ms ts first_notoverridable p
  first_is modifier.Overloads ms ts apart p = one_word word.Overloads modifier.Overloads ms ts first_overloads p
  first_is modifier.Shadows ms ts apart p = one_word word.Shadows modifier.Shadows ms ts first_shadows p
  first_is modifier.ReadOnly ms ts apart p = one_word word.ReadOnly modifier.ReadOnly ms ts first_readonly p

  record ReadsAll (n : ℕ) (before ms : List Modifier) (ts : List Token) : Type 0 where
    us : List Token
    reads : modifiers_from n before ts ≡ (before ++ ms, us)
    behind : Behind us
    fewer : length us ≤ length ts

  stays : (n : ℕ) (before : List Modifier) (ts : List Token) → first_modifier ts ≡ None → modifiers_from n before ts ≡ (before, ts)
  unfolding modifiers_from
  stays zero before ts e = refl
  stays (suc n) before ts e = ap (modifier_on (modifiers_from n) before ts) e

  all_read : (ms : List Modifier) (n : ℕ) (before : List Modifier) (ts : List Token) → length ts ≤ n → Modified ms Behind ts → ReadsAll n before ms ts
  all_read [] n before ts long p = record {
    us = ts;
    reads = stays n before ts (stops ts p) ∙ ap (λ (xs : List Modifier). (xs, ts)) (sym (append-nil before));
    behind = p;
    fewer = omega arith;
  }
  all_read (m ∷ ms) zero before ts long p = let f = first_is m ms ts p.0 p.1 in absurd (omega (arith, f.fewer))
  all_read (m ∷ ms) (suc n) before ts long p =
      let f = first_is m ms ts p.0 p.1 in
      let g = all_read ms n (before ++ m ∷ []) f.us (omega (arith, f.fewer)) f.behind in
      record {
        us = g.us;
        reads = goes n before m ts f.us f.first ∙ g.reads ∙ ap (λ (xs : List Modifier). (xs, g.us)) (append_assoc before (m ∷ []) ms);
        behind = g.behind;
        fewer = omega (arith, f.fewer, g.fewer);
      }

-- what stands behind the modifiers
pub record AreRead (Behind : List Token → Type 0) (ms : List Modifier) (ts : List Token) : Type 0 where
  pub us : List Token
  pub reads : read_modifiers ts ≡ (ms, us)
  pub behind : Behind us
  pub fewer : length us ≤ length ts

pub are_read : (Behind : List Token → Type 0) → ((us : List Token) → Behind us → first_modifier us ≡ None) → (ms : List Modifier) (ts : List Token) → Modified ms Behind ts
    → AreRead Behind ms ts
unfolding read_modifiers
are_read Behind stops ms ts p =
    let f = all_read Behind stops ms (length ts) [] ts (omega arith) p in
    record { us = f.us; reads = f.reads; behind = f.behind; fewer = f.fewer }

-- WHAT IS READ STANDS THERE

module _ (Q : List Token → Type 0) where
  both_found : (ts us : List Token) → after_protected_friend ts ≡ Some us → Q us → Words (modifier_words (modifier.Access access.ProtectedFriend)) Q ts
  unfolding after_protected_friend
  both_found (token.Keyword word.Protected ∷ token.Keyword word.Friend ∷ ts) us e q =
      let same : ts ≡ us = cc in (reserved word.Friend ∷ ts, refl, (ts, refl, subst Q (sym same) q))
  both_found ts us e q = absurd cc

  word_found : (w : Keyword) (m : Modifier) (us : List Token) → word_modifier w ≡ Some m → Q us → Words (modifier_words m) Q (reserved w ∷ us)
  word_found word.Public m us e q = let same : modifier.Access access.Public ≡ m = cc in subst (λ (x : Modifier). Words (modifier_words x) Q (reserved word.Public ∷ us)) same (us, refl, q)
  word_found word.Private m us e q = let same : modifier.Access access.Private ≡ m = cc in subst (λ (x : Modifier). Words (modifier_words x) Q (reserved word.Private ∷ us)) same (us, refl, q)
  word_found word.Friend m us e q = let same : modifier.Access access.Friend ≡ m = cc in subst (λ (x : Modifier). Words (modifier_words x) Q (reserved word.Friend ∷ us)) same (us, refl, q)
  word_found word.Shared m us e q = let same : modifier.Shared ≡ m = cc in subst (λ (x : Modifier). Words (modifier_words x) Q (reserved word.Shared ∷ us)) same (us, refl, q)
  word_found word.Overridable m us e q = let same : modifier.Overridable ≡ m = cc in subst (λ (x : Modifier). Words (modifier_words x) Q (reserved word.Overridable ∷ us)) same (us, refl, q)
  word_found word.Overrides m us e q = let same : modifier.Overrides ≡ m = cc in subst (λ (x : Modifier). Words (modifier_words x) Q (reserved word.Overrides ∷ us)) same (us, refl, q)
  word_found word.MustOverride m us e q = let same : modifier.MustOverride ≡ m = cc in subst (λ (x : Modifier). Words (modifier_words x) Q (reserved word.MustOverride ∷ us)) same (us, refl, q)
  word_found word.NotOverridable m us e q = let same : modifier.NotOverridable ≡ m = cc in subst (λ (x : Modifier). Words (modifier_words x) Q (reserved word.NotOverridable ∷ us)) same (us, refl, q)
  word_found word.Overloads m us e q = let same : modifier.Overloads ≡ m = cc in subst (λ (x : Modifier). Words (modifier_words x) Q (reserved word.Overloads ∷ us)) same (us, refl, q)
  word_found word.Shadows m us e q = let same : modifier.Shadows ≡ m = cc in subst (λ (x : Modifier). Words (modifier_words x) Q (reserved word.Shadows ∷ us)) same (us, refl, q)
  word_found word.ReadOnly m us e q = let same : modifier.ReadOnly ≡ m = cc in subst (λ (x : Modifier). Words (modifier_words x) Q (reserved word.ReadOnly ∷ us)) same (us, refl, q)
  word_found word.Protected m us e q = let same : modifier.Access access.Protected ≡ m = cc in subst (λ (x : Modifier). Words (modifier_words x) Q (reserved word.Protected ∷ us)) same (us, refl, q)
  word_found w m us e q = absurd cc

  before_found : (w : Keyword) (ts us : List Token) (m : Modifier) (o : Option Modifier) → word_modifier w ≡ o → modifier_before ts o ≡ Some (m, us) → Q us
      → Words (modifier_words m) Q (reserved w ∷ ts)
  before_found w ts us m None was e q = absurd cc
  before_found w ts us m (Some k) was e q =
      let same = parts_of k m ts us e in
      word_found w m ts (was ∙ ap (λ (x : Modifier). Some x) same.0) (subst Q (sym same.1) q)

  first_word_found : (ts us : List Token) (m : Modifier) → first_word ts ≡ Some (m, us) → Q us → Words (modifier_words m) Q ts
  unfolding first_word
  first_word_found (token.Keyword w ∷ ts) us m e q = before_found w ts us m (word_modifier w) refl e q
  first_word_found ts us m e q = absurd cc

  one_found : (ts us : List Token) (m : Modifier) (o : Option (List Token)) → after_protected_friend ts ≡ o → one_or_word ts o ≡ Some (m, us) → Q us
      → Words (modifier_words m) Q ts
  one_found ts us m None was e q = first_word_found ts us m e q
  one_found ts us m (Some vs) was e q =
      let same = parts_of (modifier.Access access.ProtectedFriend) m vs us e in
      subst (λ (x : Modifier). Words (modifier_words x) Q ts) same.0 (both_found ts vs was (subst Q (sym same.1) q))

  first_found : (ts us : List Token) (m : Modifier) → first_modifier ts ≡ Some (m, us) → Q us → Words (modifier_words m) Q ts
  unfolding first_modifier
  first_found ts us m e q = one_found ts us m (after_protected_friend ts) refl e q

module _ (Behind : List Token → Type 0) where
  no_pair : (m : Modifier) (ms : List Modifier) (ts us : List Token) → first_modifier ts ≡ Some (m, us) → Modified ms Behind us → PartsPair (m ∷ ms) → ⊥
  no_pair (modifier.Access access.Protected) (modifier.Access access.Friend ∷ ms) ts us e p pair =
      let w = first_found (λ vs. vs ≡ us) ts us (modifier.Access access.Protected) e refl in
      let there : first_modifier ts ≡ Some (modifier.Access access.ProtectedFriend, p.1.0) =
      ap first_modifier (w.1 ∙ ap (λ vs. reserved word.Protected ∷ vs) (w.2 ∙ p.1.1)) ∙ first_both p.1.0 in
      let same = parts_of (modifier.Access access.Protected) (modifier.Access access.ProtectedFriend) us p.1.0 (sym e ∙ there) in
      let bad = same.0 in cc
  no_pair m ms ts us e p pair = pair

  record Found (before xs : List Modifier) (ts : List Token) : Type 0 where
    ms : List Modifier
    whole : xs ≡ before ++ ms
    modified : Modified ms Behind ts

  found_on : (n : ℕ) (before xs : List Modifier) (ts us : List Token) (o : Read Modifier) → first_modifier ts ≡ o
      → modifier_on (modifiers_from n) before ts o ≡ (xs, us) → Behind us
      → ((m : Modifier) (vs : List Token) → modifiers_from n (before ++ m ∷ []) vs ≡ (xs, us) → Found (before ++ m ∷ []) xs vs) → Found before xs ts
  found_on n before xs ts us None was e q again =
      let lists : before ≡ xs = ap (λ (p : List Modifier × List Token). p.0) e in
      let rests : ts ≡ us = ap (λ (p : List Modifier × List Token). p.1) e in
      record { ms = []; whole = sym lists ∙ sym (append-nil before); modified = subst Behind (sym rests) q }
  found_on n before xs ts us (Some p) was e q again =
      let g = again p.0 p.1 e in
      record {
        ms = p.0 ∷ g.ms;
        whole = g.whole ∙ append_assoc before (p.0 ∷ []) g.ms;
        modified = (no_pair p.0 g.ms ts p.1 was g.modified, first_found (Modified g.ms Behind) ts p.1 p.0 was g.modified);
      }

  all_found : (n : ℕ) (before xs : List Modifier) (ts us : List Token) → modifiers_from n before ts ≡ (xs, us) → Behind us → Found before xs ts
  unfolding modifiers_from
  all_found zero before xs ts us e q =
      let lists : before ≡ xs = ap (λ (p : List Modifier × List Token). p.0) e in
      let rests : ts ≡ us = ap (λ (p : List Modifier × List Token). p.1) e in
      record { ms = []; whole = sym lists ∙ sym (append-nil before); modified = subst Behind (sym rests) q }
  all_found (suc n) before xs ts us e q =
      found_on n before xs ts us (first_modifier ts) refl e q (λ m vs f. all_found n (before ++ m ∷ []) xs vs us f q)

pub are_found : (Behind : List Token → Type 0) (ms : List Modifier) (ts us : List Token) → read_modifiers ts ≡ (ms, us) → Behind us → Modified ms Behind ts
unfolding read_modifiers
are_found Behind ms ts us e q =
    let f = all_found Behind (length ts) [] ms ts us e q in
    subst (λ (xs : List Modifier). Modified xs Behind ts) (sym f.whole) f.modified
