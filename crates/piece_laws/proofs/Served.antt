-- What a choice that serves its block and suits has: safe places for its body and for its sunk lines.
use Rattle.std.proofs.Common.{◌≡◌, ℕ, suc, ◌<◌, Bool, true, false, ◌&&◌, List, [], ◌∷◌, ◌++◌, length, refl, sym, ◌∙◌, subst, arith, ◌⊎◌, inl, inr, ⊎_elim}
use Rattle.std.specs.Prelude.{if◌then◌else◌}
use Rattle.std.proofs.lemmas.Bool.{true≢false}
use Rattle.std.proofs.lemmas.List.{append-nil}
use Rattle.par_moves.specs.declared.locations.Place.{Place}
use Rattle.par_moves.specs.declared.locations.Place.TheVariants.{Reg, Slot}
use Rattle.par_moves.specs.Locations.{same_place, InRange}
use Rattle.par_moves.specs.Homes.{home_of}
use Rattle.ssa_form.specs.declared.form.Val.{Val}
use Rattle.ssa_form.specs.declared.form.Val.TheVariants.{Param, Line as Named, Num}
use Rattle.ssa_form.specs.declared.form.Line.{Line}
use Rattle.ssa_form.specs.declared.form.Line.TheVariants.{Bin, One, Select, Load, Store, Gone}
use Rattle.ssa_form.specs.declared.form.Exit.{Exit}
use Rattle.ssa_form.specs.declared.form.Exit.TheVariants.{Jump, Cond, Way, Island}
use Rattle.ssa_form.specs.declared.form.Block.{Block}
use Rattle.ssa_form.specs.Same.{rows}
use Rattle.emit_ops.specs.Sequences.{kept}
use Rattle.code_laws.specs.Placed.{IsNamed, Names, Used, Laid, Safe}
use Rattle.reg_place.specs.Laws.{HomesLie}
use Rattle.reg_place.specs.Places.{is_in}
use Rattle.block_make.specs.Choices.{Choice, place_in}
use Rattle.sim_runs.specs.Lines.{NamedIn, LineIn, Closed, either, IsSunk, AllSunk}
use Rattle.sim_runs.specs.Coding.{out_at, Coding, Exits, ExitIn, ExitNames, EndNames, NamedLater, IsPlace, IsKept as KeptPlace, NoneLost, Serves}
use Rattle.piece_laws.specs.Choices.{coding_of, Suits}
use Rattle.piece_laws.proofs.Checked.{both, Gives, gives_low, names_checks, line_names, RowsCheck, rows_check, outs_count, out_checks, ExitChecks, exit_checks}
use Rattle.piece_laws.proofs.Named.{named_later, later_true, true_later, it_named, it_line_named, used_named}
use Rattle.piece_laws.proofs.Placing.{places_differ, Names_in, lost_behind, kept_after, used_in, safe_in}

named_in : (on keep : ℕ → Bool) (v : Val) (j : ℕ) → NamedIn on keep v → IsNamed v j → keep j ≡ true
named_in on keep (Param v) j h i = absurd i
named_in on keep (Named k) j h i = subst (λ n. keep n ≡ true) i h
named_in on keep (Num n) j h i = absurd i

line_in : (on keep : ℕ → Bool) (l : Line) (j : ℕ) → LineIn on keep l → Names l j → keep j ≡ true
line_in on keep (Bin op a b) j h (inl i) = named_in on keep a j h.0 i
line_in on keep (Bin op a b) j h (inr i) = named_in on keep b j h.1 i
line_in on keep (One op a) j h i = named_in on keep a j h i
line_in on keep (Select c a b) j h (inl i) = named_in on keep c j h.0 i
line_in on keep (Select c a b) j h (inr (inl i)) = named_in on keep a j h.1 i
line_in on keep (Select c a b) j h (inr (inr i)) = named_in on keep b j h.2 i
line_in on keep (Load w at) j h i = named_in on keep at j h i
line_in on keep (Store w at a) j h (inl i) = named_in on keep at j h.0 i
line_in on keep (Store w at a) j h (inr i) = named_in on keep a j h.1 i
line_in on keep Gone j h i = absurd i

sunk_in : (on keep sunk : ℕ → Bool) (l : Line) (j : ℕ) → IsSunk on keep sunk l → Names l j → either keep sunk j ≡ true
sunk_in on keep sunk (Bin op a b) j h i = line_in on (either keep sunk) (Bin op a b) j h i
sunk_in on keep sunk (One op a) j h i = line_in on (either keep sunk) (One op a) j h i
sunk_in on keep sunk (Select c a b) j h i = line_in on (either keep sunk) (Select c a b) j h i
sunk_in on keep sunk (Load w at) j h i = absurd h
sunk_in on keep sunk (Store w at a) j h i = absurd h
sunk_in on keep sunk Gone j h i = absurd h

either_of : (f g : ℕ → Bool) (j : ℕ) → either f g j ≡ true → (f j ≡ true) ⊎ (g j ≡ true)
either_of f g j h = go (f j) refl h
  where
    go : (b : Bool) → f j ≡ b → (if b then true else g j) ≡ true → (f j ≡ true) ⊎ (g j ≡ true)
    go true e h = inl e
    go false e h = inr h

body_names : (on body : ℕ → Bool) (ps : List (ℕ × Line)) → Closed on body ps → Names_in (λ j. false) body ps
body_names on body [] h = tt
body_names on body (p ∷ ps) h = ((λ e j n. inr (line_in on body p.1 j (h.1 e) n)), body_names on body ps h.2)

sunk_names : (on body sunk : ℕ → Bool) (ps : List (ℕ × Line)) → AllSunk on body sunk ps → Names_in body sunk ps
sunk_names on body sunk [] h = tt
sunk_names on body sunk (p ∷ ps) h = ((λ e j n. either_of body sunk j (sunk_in on body sunk p.1 j (h.0 e) n)), sunk_names on body sunk ps h.1)

abbrev pub body_of : Choice → List (ℕ × Line)
body_of choice = kept (is_in choice.split.body) (rows choice.block)

abbrev pub sunk_of : Choice → List (ℕ × Line)
sunk_of choice = kept (is_in choice.split.sunk) (rows choice.block)

-- all of it
pub record Ready (choice : Choice) (exits : Exits) : Type 0 where
  pub laid : Laid (length choice.block.lines) home_of (place_in choice)
  -- named behind the body
  pub last : ℕ → Bool
  pub body_safe : Safe (length choice.block.lines) (place_in choice) last (body_of choice)
  pub body_unused : (j : ℕ) → Used last (body_of choice) j → ⊥
  pub body_named : (j : ℕ) → is_in choice.split.body j ≡ true → NamedLater choice.block j (sunk_of choice) → (j < length choice.block.lines) × (last j ≡ true)
  -- named behind the sunk lines
  pub after : ℕ → Bool
  pub sunk_safe : exits.unknown ≡ true → Safe (length choice.block.lines) (place_in choice) after (sunk_of choice)
  pub sunk_before : exits.unknown ≡ true → (j : ℕ) → Used after (sunk_of choice) j → (is_in choice.split.body j ≡ true) × NamedLater choice.block j (sunk_of choice)
  pub after_out : (j : ℕ) → EndNames choice.block j → (j < length choice.block.lines) × (after j ≡ true)

module _ (lie : HomesLie) (home : ℕ → Place) (homes : (v : ℕ) → home v ≡ home_of v) (on : ℕ → Bool) (b : Block) (exits : Exits) (choice : Choice) (serves : Serves home on b exits (coding_of choice)) (suits : Suits choice) where
  abbrev k : Coding
  k = coding_of choice

  abbrev limit : ℕ
  limit = length choice.block.lines

  abbrev body_lines : List (ℕ × Line)
  body_lines = kept k.body (rows k.block)

  abbrev sunk_lines : List (ℕ × Line)
  sunk_lines = kept k.sunk (rows k.block)

  checks : RowsCheck k.block.lines 0 (rows k.block)
  checks = rows_check k.block suits.checked suits.words

  -- ---- places
  range : (p : Place) → IsPlace home p → InRange p
  range (Reg r) h = (h.register r refl).1
  range (Slot s) h = h.slot s refl

  free_of : (p : Place) (r : ℕ) → r < 2 → IsPlace home p → same_place p (Reg r) ≡ false
  free_of p r l h = places_differ p (Reg r) (λ e. let q = (h.register r (sym e)).0 in absurd (omega (arith, l, q)))

  pub laid : Laid limit home_of k.place
  laid = record {
    homes = lie.kept;
    homes_fit = lie.fit;
    places = λ j l. record { not_eax = free_of (k.place j) 0 (omega arith) (serves.places j l); not_ecx = free_of (k.place j) 1 (omega arith) (serves.places j l) };
    places_fit = λ j l. range (k.place j) (serves.places j l);
    apart = λ v j l m. places_differ (home_of v) (k.place j) (λ e. (serves.places j m).free v l (homes v ∙ sym e));
  }

  -- ---- what is named has a result
  exit_gives : (x : Exit) → ExitChecks k.block suits.checked suits.words x → (j : ℕ) → ExitNames j x → Gives k.block.lines j
  exit_gives (Jump to) c j n = absurd n
  exit_gives (Cond t taken next) c j n = (names_checks k.block.lines limit t j c (it_named t j n)).1
  exit_gives (Way v) c j n = (names_checks k.block.lines limit v j c (it_named v j n)).1
  exit_gives (Island len) c j n = absurd n

  end_gives : (j : ℕ) → EndNames k.block j → Gives k.block.lines j
  end_gives j (inl n) = exit_gives k.block.exit (exit_checks k.block suits.checked suits.words) j n
  end_gives j (inr n) = (names_checks k.block.lines limit (out_at k.block n.0) j (out_checks k.block suits.checked suits.words n.0) (it_named (out_at k.block n.0) j n.2)).1

  later_gives : (set : ℕ → Bool) (at : ℕ) (ps : List (ℕ × Line)) → RowsCheck k.block.lines at ps → (j : ℕ) → NamedLater k.block j (kept set ps) → Gives k.block.lines j
  later_gives set at [] c j n = end_gives j n
  later_gives set at (p ∷ ps) c j n = go (set p.0) n (later_gives set (suc at) ps c.4 j)
    where
      go : (x : Bool) → NamedLater k.block j (if x then p ∷ kept set ps else kept set ps) → (NamedLater k.block j (kept set ps) → Gives k.block.lines j) → Gives k.block.lines j
      go true (inl n) rest = (line_names k.block.lines at p.1 j c.2 (it_line_named p.1 j n)).1
      go true (inr n) rest = rest n
      go false n rest = rest n

  -- ---- the body
  pub last : ℕ → Bool
  last j = k.body j && named_later k.block j sunk_lines

  last_of : (j : ℕ) → last j ≡ true → (k.body j ≡ true) × NamedLater k.block j sunk_lines
  unfolding last
  last_of j h = let q = both (k.body j) (named_later k.block j sunk_lines) h in (q.0, true_later k.block (outs_count k.block suits.checked suits.words) j sunk_lines q.1)

  last_in : (j : ℕ) → last j ≡ true → Gives k.block.lines j × ((false ≡ true) ⊎ (k.body j ≡ true))
  last_in j h = let q = last_of j h in (later_gives k.sunk 0 (rows k.block) checks j q.1, inr q.0)

  pub body_named : (j : ℕ) → k.body j ≡ true → NamedLater k.block j sunk_lines → (j < limit) × (last j ≡ true)
  unfolding last
  body_named j on n = (gives_low k.block.lines j (later_gives k.sunk 0 (rows k.block) checks j n), rw on (later_true k.block j sunk_lines n))

  pub body_safe : Safe limit k.place last body_lines
  body_safe = safe_in k.block k.place k.body (λ j. false) last sunk_lines last_in (λ j h. (last_of j h).1) 0 (rows k.block) (omega arith) checks (body_names on k.body (rows k.block) serves.body)
      (λ j g i. ⊎_elim (λ (e : false ≡ true). absurd (true≢false (sym e))) (λ (e : (k.body j ≡ true) × (j < 0)). let l = e.1 in absurd (omega (arith, l))) i) serves.lasting

  pub body_unused : (j : ℕ) → Used last body_lines j → ⊥
  body_unused j u = ⊎_elim (λ (e : false ≡ true). true≢false (sym e)) (λ (e : (k.body j ≡ true) × (j < 0)). let l = e.1 in absurd (omega (arith, l)))
      (used_in k.block k.place k.body (λ j. false) last sunk_lines last_in 0 (rows k.block) checks (body_names on k.body (rows k.block) serves.body) j u).1

  -- ---- the sunk lines
  pub after : ℕ → Bool
  after j = named_later k.block j []

  after_out : (j : ℕ) → EndNames k.block j → (j < limit) × (after j ≡ true)
  unfolding after
  after_out j n = (gives_low k.block.lines j (end_gives j n), later_true k.block j [] n)

  after_of : (j : ℕ) → after j ≡ true → EndNames k.block j
  unfolding after
  after_of j h = true_later k.block (outs_count k.block suits.checked suits.words) j [] h

  module _ (out : exits.unknown ≡ true) where
    exit_in : (x : Exit) → ExitIn on k.body x → (j : ℕ) → ExitNames j x → k.body j ≡ true
    exit_in (Jump to) h j n = absurd n
    exit_in (Cond t taken next) h j n = named_in on k.body t j h (it_named t j n)
    exit_in (Way v) h j n = named_in on k.body v j h (it_named v j n)
    exit_in (Island len) h j n = absurd n

    after_in : (j : ℕ) → after j ≡ true → Gives k.block.lines j × ((k.body j ≡ true) ⊎ (k.sunk j ≡ true))
    after_in j h = let n = after_of j h in (
      end_gives j n,
      ⊎_elim
          (λ (e : ExitNames j k.block.exit). inl (exit_in k.block.exit serves.exit j e))
          (λ e. either_of k.body k.sunk j (named_in on (either k.body k.sunk) (out_at k.block e.0) j (serves.all_outs out e.0 e.1) (it_named (out_at k.block e.0) j e.2)))
          n,
    )

    none_behind : sunk_lines ++ [] ≡ sunk_lines
    none_behind = append-nil sunk_lines

    pub sunk_safe : Safe limit k.place after sunk_lines
    sunk_safe = safe_in k.block k.place k.sunk k.body after [] after_in after_of 0 (rows k.block) (omega arith) checks (sunk_names on k.body k.sunk (rows k.block) (serves.sunk out))
        (λ j g i. ⊎_elim
        (λ (e : k.body j ≡ true). subst (KeptPlace k.block k.place j) (sym none_behind) (kept_after k.block k.place k.body sunk_lines 0 (rows k.block) checks serves.lasting j e (omega arith) (gives_low k.block.lines j g)))
        (λ (e : (k.sunk j ≡ true) × (j < 0)). let l = e.1 in absurd (omega (arith, l))) i)
        (subst (NoneLost k.block k.place) (sym none_behind) (lost_behind k.block k.place body_lines sunk_lines serves.lasting))

    -- what they use at their start is of the body
    pub sunk_before : (j : ℕ) → Used after sunk_lines j → (k.body j ≡ true) × NamedLater k.block j sunk_lines
    sunk_before j u = (
      ⊎_elim (λ (e : k.body j ≡ true). e) (λ (e : (k.sunk j ≡ true) × (j < 0)). let l = e.1 in absurd (omega (arith, l)))
          (used_in k.block k.place k.sunk k.body after [] after_in 0 (rows k.block) checks (sunk_names on k.body k.sunk (rows k.block) (serves.sunk out)) j u).1,
      subst (NamedLater k.block j) none_behind (used_named k.block after [] after_of sunk_lines j u),
    )

  pub ready : Ready choice exits
  ready = record {
    laid = laid;
    last = last;
    body_safe = body_safe;
    body_unused = body_unused;
    body_named = body_named;
    after = after;
    sunk_safe = sunk_safe;
    sunk_before = sunk_before;
    after_out = after_out;
  }
