-- What the refusal of a line, the rules on rows and the building of a tree are to the lines of a file.
use Rattle.std.proofs.Common.{◌≡◌, ◌⊎◌, inl, inr, ℕ, ◌≤◌, List, [], ◌∷◌, reverse, Option, Some, None, Result, Ok, Err, refl, sym, ◌∙◌, subst, arith}
use Rattle.std.specs.Prelude.{IfOk}
use Rattle.vb_diag.specs.{declared.refusal.Refusal.Refusal, Broken.{IsNotAfter, InFile, OfRule, IsLeast, IsLeastLine, lesser, broken_at}}
use Rattle.vb_diag.proofs.Least.{rules_ordered}
use Rattle.vb_syntax.specs.declared.{tokens.Line.Line, declaration.SourceFile.SourceFile, item.Row.Row, words.ContextualWords.ContextualWords}
use Rattle.vb_rows.specs.Files.{AreRowsOf, BreaksGrammarRule, IsLeastRefusal, depths_of}
use Rattle.vb_ends.specs.{declared.role.{Mark.Mark, Sort.Sort}, Enders.BreaksBackwards, Roles.{marks_of, AreOpenBehind}}
use Rattle.vb_tree.specs.declared.tree.BuildErr.{BuildErr}
use Rattle.vb_tree.specs.declared.tree.BuildErr.TheVariants as build
use Rattle.vb_blocks.specs.Trees.{IsTree, IsMisplaced}
use Rattle.vb_parse.specs.{Broken.{misplaced_in, BreaksJudged}, UpTo.{IsUpTo, last_line, IsFront, IsBuilt}, Rules.{BreaksRowRule, BreaksLines, IsTreeOf}}
use Rattle.vb_parse.proofs.{UpTo.{misplaced_there, misplaced_here, not_told_before}, Orders.{Either, either_least, same_least, one_rule_more}}

-- the least line of a row that can't stand where it is
placed_least : (file : ℕ) (rows : List Row) (built : Result SourceFile BuildErr) → IsBuilt file rows built → (built ≡ Err build.Memory → ⊥) → IsLeastLine (IsMisplaced rows) (misplaced_in built)
placed_least file rows (Ok t) is known = is.placed
placed_least file rows (Err (build.Misplaced line)) is known = (is.misplaced line refl, λ other h. let same = is.alone line other refl h in let le : line ≤ other = omega arith in le)
placed_least file rows (Err build.Unended) is known = is.unended refl
placed_least file rows (Err build.Memory) is known = absurd (known refl)

-- nothing is broken where none is the least
pub none_broken : (file : ℕ) (Breaks : ℕ → ℕ → Type 0) → IsLeast (InFile file Breaks) None → (line rule : ℕ) → Breaks line rule → ⊥
none_broken file Breaks none line rule h = none (record { file = file; line = line; rule = rule }) (refl, h)

module _ (file : ℕ) (words : ContextualWords) (lines : List Line) (rows : List Row) (depths : List ℕ)
    (are : AreRowsOf words [] lines rows) (alone : (others : List Row) → AreRowsOf words [] lines others → others ≡ rows) (deep : depths ≡ depths_of lines) where
  abbrev Judged : ℕ → ℕ → Type 0
  Judged = Either (BreaksGrammarRule lines rows) (BreaksJudged rows depths)

  abbrev Found : ℕ → ℕ → Type 0
  Found = Either (OfRule 34 (IsMisplaced rows)) Judged

  on_rows : (line rule : ℕ) → BreaksJudged rows depths line rule → BreaksRowRule rows depths line rule
  on_rows line rule (inl h) = inl h
  on_rows line rule (inr (inl h)) = inr (inl h)
  on_rows line rule (inr (inr h)) = inr (inr (inr h))

  found_there : (line rule : ℕ) → Found line rule → BreaksGrammarRule lines rows line rule ⊎ BreaksRowRule rows depths line rule
  found_there line rule (inl h) = inr (inr (inr (inl h)))
  found_there line rule (inr (inl h)) = inl h
  found_there line rule (inr (inr h)) = inr (on_rows line rule h)

  found_back : (line rule : ℕ) → BreaksGrammarRule lines rows line rule ⊎ BreaksRowRule rows depths line rule → Found line rule
  found_back line rule (inl h) = inr (inl h)
  found_back line rule (inr (inl h)) = inr (inr (inl h))
  found_back line rule (inr (inr (inl h))) = inr (inr (inr (inl h)))
  found_back line rule (inr (inr (inr (inl h)))) = inl h
  found_back line rule (inr (inr (inr (inr h)))) = inr (inr (inr (inr h)))

  there : (line rule : ℕ) → Found line rule → BreaksLines words lines line rule
  there line rule h = record {
    rows = rows;
    are_rows = are;
    broken = subst (λ (bs : List ℕ). BreaksGrammarRule lines rows line rule ⊎ BreaksRowRule rows bs line rule) deep (found_there line rule h);
  }

  back : (line rule : ℕ) → BreaksLines words lines line rule → Found line rule
  back line rule h = found_back line rule
      (subst (λ (rs : List Row). BreaksGrammarRule lines rs line rule ⊎ BreaksRowRule rs depths line rule) (alone h.rows h.are_rows)
      (subst (λ (bs : List ℕ). BreaksGrammarRule lines h.rows line rule ⊎ BreaksRowRule h.rows bs line rule) (sym deep) h.broken))

  -- the lesser of the refusal of a line and of the least rule on rows but for that on where they stand
  pub least_judged : (refusal judged least : Option Refusal) (seen : List Row) (counts : List ℕ) → IsLeastRefusal file lines rows refusal → seen ≡ rows → counts ≡ depths → IsLeast (InFile file (BreaksJudged seen counts)) judged
      → least ≡ lesser refusal judged → IsLeast (InFile file Judged) least
  least_judged refusal judged least seen counts refused same_rows same_depths on is =
      let of_rows : IsLeast (InFile file (BreaksJudged rows depths)) judged =
      subst (λ (ds : List ℕ). IsLeast (InFile file (BreaksJudged rows ds)) judged) same_depths (subst (λ (rs : List Row). IsLeast (InFile file (BreaksJudged rs counts)) judged) same_rows on) in
      either_least file (BreaksGrammarRule lines rows) (BreaksJudged rows depths) refusal judged least refused of_rows is

  -- A front of the rows was built, as far as the least rule that is broken otherwise.
  module _ (front : List Row) (built : Result SourceFile BuildErr) (is_built : IsBuilt file front built) (judged : Option Refusal) (of_judged : IsLeast (InFile file Judged) judged) (cut : IsFront judged rows front) where
    abbrev FoundInFront : ℕ → ℕ → Type 0
    FoundInFront = Either (OfRule 34 (IsMisplaced front)) Judged

    wider : (j : Option Refusal) → IsFront j rows front → (line : ℕ) → IsMisplaced front line → IsMisplaced rows line
    wider None is line m = subst (λ (rs : List Row). IsMisplaced rs line) is m
    wider (Some b) is line m = misplaced_there rows front line is.rest is.are m

    found_wider : (j : Option Refusal) → IsFront j rows front → (line rule : ℕ) → FoundInFront line rule → Found line rule
    found_wider j is line rule (inl h) = inl (h.0, wider j is line h.1)
    found_wider j is line rule (inr h) = inr h

    -- what is found in all rows isn't before the least that is found in the front
    not_before : (b x : Refusal) → IsLeast (InFile file Judged) (Some b) → IsUpTo (last_line b) rows front → IsLeast (InFile file FoundInFront) (Some x) → (z : Refusal) → z.file ≡ file → Found z.line z.rule → IsNotAfter x z
    not_before b x of is p z here (inl h) = elim (misplaced_here rows front (last_line b) z.line is h.1) [
      | inl k ↦ p.1 z (here, inl (h.0, k))
      | inr k ↦ rules_ordered.along x b z (p.1 b (of.0.0, inr of.0.1)) (inr (of.0.0 ∙ sym here, not_told_before b z k h.0))
    ]
    not_before b x of is p z here (inr h) = p.1 z (here, inr h)

    extended : (j least : Option Refusal) → IsLeast (InFile file Judged) j → IsFront j rows front → IsLeast (InFile file FoundInFront) least → IsLeast (InFile file Found) least
    extended None least of is p = subst (λ (rs : List Row). IsLeast (InFile file (Either (OfRule 34 (IsMisplaced rs)) Judged)) least) is p
    extended (Some b) None of is p = absurd (p b (of.0.0, inr of.0.1))
    extended (Some b) (Some x) of is p = ((p.0.0, found_wider (Some b) is x.line x.rule p.0.1), λ z h. not_before b x of is p z h.0 h.1)

    -- with the row that can't stand where it is, the least of all rules
    pub least_of_lines : (first : Option ℕ) (misplaced least : Option Refusal) → first ≡ misplaced_in built → misplaced ≡ broken_at file 34 first → least ≡ lesser misplaced judged
        → (built ≡ Err build.Memory → ⊥) → IsLeast (InFile file (BreaksLines words lines)) least
    least_of_lines first misplaced least is_first is_misplaced is known =
        let of_first : IsLeastLine (IsMisplaced front) first = subst (λ (o : Option ℕ). IsLeastLine (IsMisplaced front) o) (sym is_first) (placed_least file front built is_built known) in
        let in_front : IsLeast (InFile file FoundInFront) least = one_rule_more file (IsMisplaced front) 34 Judged first misplaced judged least of_first is_misplaced is of_judged in
        same_least file Found (BreaksLines words lines) least there back (extended judged least of_judged cut in_front)

    -- where nothing is broken, all rows were built
    all_built : (j : Option Refusal) → IsLeast (InFile file Judged) j → IsFront j rows front → ((line rule : ℕ) → BreaksLines words lines line rule → ⊥) → front ≡ rows
    all_built None of is nothing = is
    all_built (Some b) of is nothing = absurd (nothing b.line b.rule (there b.line b.rule (inr of.0.1)))

    misplaced_breaks : (line : ℕ) → built ≡ Err (build.Misplaced line) → BreaksLines words lines line 34
    misplaced_breaks line e = there line 34 (inl (refl, wider judged cut line (is_built.misplaced line e)))

    -- where blocks that are open at the end break a rule
    unended_breaks : ((marks : List Mark) (s : Sort) (ss : List Sort) → AreOpenBehind marks (s ∷ ss) → (line : ℕ) × BreaksBackwards marks line) → front ≡ rows → built ≡ Err build.Unended
        → (line : ℕ) × BreaksLines words lines line 31
    unended_breaks breaks whole e =
        let open_ = is_built.open_block e in
        let opened : AreOpenBehind (marks_of None (reverse rows)) (open_.0 ∷ open_.1) = subst (λ (rs : List Row). AreOpenBehind (marks_of None (reverse rs)) (open_.0 ∷ open_.1)) whole open_.2 in
        let broken = breaks (marks_of None (reverse rows)) open_.0 open_.1 opened in
        (broken.0, there broken.0 31 (inr (inr (inl (refl, broken.1)))))

    -- where nothing is broken, there is a tree, unless memory ran out
    pub only_memory : ((marks : List Mark) (s : Sort) (ss : List Sort) → AreOpenBehind marks (s ∷ ss) → (line : ℕ) × BreaksBackwards marks line) → (least : Option Refusal) → ((built ≡ Err build.Memory → ⊥) → IsLeast (InFile file (BreaksLines words lines)) least)
        → least ≡ None → (f : BuildErr) → built ≡ Err f → f ≡ build.Memory
    only_memory breaks least is none build.Memory e = refl
    only_memory breaks least is none (build.Misplaced line) e =
        let known : built ≡ Err build.Memory → ⊥ = λ m. cc in
        let nothing = none_broken file (BreaksLines words lines) (subst (λ (o : Option Refusal). IsLeast (InFile file (BreaksLines words lines)) o) none (is known)) in
        absurd (nothing line 34 (misplaced_breaks line e))
    only_memory breaks least is none build.Unended e =
        let known : built ≡ Err build.Memory → ⊥ = λ m. cc in
        let nothing = none_broken file (BreaksLines words lines) (subst (λ (o : Option Refusal). IsLeast (InFile file (BreaksLines words lines)) o) none (is known)) in
        let broken = unended_breaks breaks (all_built judged of_judged cut nothing) e in
        absurd (nothing broken.0 31 broken.1)

    -- the tree that is given
    pub is_tree : {E : Type 0} (least : Option Refusal) (result : Result SourceFile E) → ((built ≡ Err build.Memory → ⊥) → IsLeast (InFile file (BreaksLines words lines)) least)
        → IfOk result (λ tree. (built ≡ Ok tree) × (least ≡ None)) → IfOk result (λ tree. IsTreeOf words file lines tree)
    is_tree least (Err e) is kept = kept
    is_tree least (Ok tree) is kept =
        let known : built ≡ Err build.Memory → ⊥ = λ m. let b = kept.0 in cc in
        let nothing = none_broken file (BreaksLines words lines) (subst (λ (o : Option Refusal). IsLeast (InFile file (BreaksLines words lines)) o) kept.1 (is known)) in
        let of_front : IsTree file front tree = subst (λ (b : Result SourceFile BuildErr). IfOk b (λ t. IsTree file front t)) kept.0 is_built.tree in
        record { rows = rows; are_rows = are; is_tree = subst (λ (rs : List Row). IsTree file rs tree) (all_built judged of_judged cut nothing) of_front }

    -- no other tree is that of the lines
    pub is_alone : {E : Type 0} (result : Result SourceFile E) → ((n : ℕ) (rs : List Row) (t u : SourceFile) → IsTree n rs t → IsTree n rs u → t ≡ u) → IfOk result (λ tree. IsTreeOf words file lines tree)
        → IfOk result (λ tree. (other : SourceFile) → IsTreeOf words file lines other → other ≡ tree)
    is_alone (Err e) one is = is
    is_alone (Ok tree) one is = λ other h.
        let here : IsTree file rows tree = subst (λ (rs : List Row). IsTree file rs tree) (alone is.rows is.are_rows) is.is_tree in
        let there_too : IsTree file rows other = subst (λ (rs : List Row). IsTree file rs other) (alone h.rows h.are_rows) h.is_tree in
        one file rows other tree there_too here

-- nothing is broken where a tree is given
pub accepted : {E : Type 0} (file : ℕ) (words : ContextualWords) (lines : List Line) (least : Option Refusal) (built : Result SourceFile BuildErr) (result : Result SourceFile E)
    → ((built ≡ Err build.Memory → ⊥) → IsLeast (InFile file (BreaksLines words lines)) least) → IfOk result (λ tree. (built ≡ Ok tree) × (least ≡ None)) → IfOk result (λ tree. (line rule : ℕ) → BreaksLines words lines line rule → ⊥)
accepted file words lines least built (Err e) is kept = kept
accepted file words lines least built (Ok tree) is kept =
    let known : built ≡ Err build.Memory → ⊥ = λ m. let b = kept.0 in cc in
    none_broken file (BreaksLines words lines) (subst (λ (o : Option Refusal). IsLeast (InFile file (BreaksLines words lines)) o) kept.1 (is known))

-- what is told where something is
pub told_first : {E : Type 0} (file : ℕ) (words : ContextualWords) (lines : List Line) (least : Option Refusal) (built : Result SourceFile BuildErr) (memory failure : E) (result : Result SourceFile E) (r : Refusal)
    → ((built ≡ Err build.Memory → ⊥) → IsLeast (InFile file (BreaksLines words lines)) least) → (built ≡ Err build.Memory → result ≡ Err memory) → result ≡ Err failure → (failure ≡ memory → ⊥)
    → least ≡ Some r → IsLeast (InFile file (BreaksLines words lines)) (Some r)
told_first file words lines least built memory failure result r is fails failed other some =
    let known : built ≡ Err build.Memory → ⊥ = λ m. let f : result ≡ Err memory = fails m in other cc in
    subst (λ (o : Option Refusal). IsLeast (InFile file (BreaksLines words lines)) o) some (is known)
