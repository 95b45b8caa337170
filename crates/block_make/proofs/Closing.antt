-- The lists of a block's split serve, as its sets do.
use Rattle.std.proofs.Common.{◌≡◌, ℕ, zero, suc, ◌+◌, ◌<◌, ◌≤◌, Bool, true, false, List, [], ◌∷◌, length, get_or, refl, sym, ap, ◌∙◌, subst, arith, inl, inr, ⊎_elim}
use Rattle.std.specs.Prelude.{◌||◌}
use Rattle.std.proofs.lemmas.Bool.{cases_lt, cases_Bool}
use Rattle.ssa_form.specs.declared.form.Val.{Val}
use Rattle.ssa_form.specs.declared.form.Val.TheVariants as val
use Rattle.ssa_form.specs.declared.form.Line.{Line}
use Rattle.ssa_form.specs.declared.form.Line.TheVariants.{Bin, One, Select, Load, Store, Gone}
use Rattle.ssa_form.specs.declared.form.Exit.{Exit}
use Rattle.ssa_form.specs.declared.form.Exit.TheVariants.{Jump, Cond, Way, Island}
use Rattle.ssa_form.specs.declared.form.Block.{Block}
use Rattle.ssa_form.specs.declared.form.BlockKey.{BlockKey}
use Rattle.ssa_form.specs.Agree.{every}
use Rattle.ssa_form.specs.Value.{numbered}
use Rattle.ssa_form.specs.Checked.{val_checked, line_checked, lines_checked, vals_checked, exit_checked, checked}
use Rattle.pass_dead.specs.Names.{vals_of, exit_vals, NamedIn, ValsIn}
use Rattle.pass_dead.proofs.Bools.{and_left, and_right, both, either_one, or_left}
use Rattle.pass_dead.proofs.Least.{val_in, vals_in, vals_out, vals_wider, vals_on, checked_vals, named_earlier}
use Rattle.stub_sink.specs.Splits.{has_fallback, starts_of, live_at, body_of, sunk_of, split_of}
use Rattle.stub_sink.specs.Serving.{either, Closed, AllSunk, IsSplit, LinesOn, Feeds, EachSplitServes, EachSplitIsListed}
use Rattle.stub_sink.proofs.Listing.{listed_length}
use Rattle.reg_place.specs.Places.{IsNamed, Names, is_in}
use Rattle.reg_place.specs.Places.{IsSplit as IsPlaceable}
use Rattle.block_make.specs.Laws.{SplitsAreClosed}
use Rattle.block_make.proofs.Splits.{whole}

-- ---- from a set to another one that agrees on the lines

module _ (on : ℕ → Bool) (all : List Line) (keep more : ℕ → Bool) (same : (j : ℕ) → j < length all → more j ≡ keep j) where
  vals_moved : (n : ℕ) (vs : List Val) → n ≤ length all → vals_checked all n vs ≡ true → ValsIn on keep vs → ValsIn on more vs
  vals_moved n vs l c h = vals_on on more vs (vals_wider on keep every vs (λ j e. refl) h)
      (vals_in more vs (λ j e. same j (let q = (named_earlier all n vs j c e).0 in omega (arith, q, l)) ∙ vals_out on keep vs h j e))

  val_moved : (n : ℕ) (v : Val) → n ≤ length all → val_checked all n v ≡ true → NamedIn on keep v → NamedIn on more v
  val_moved n v l c h = (vals_moved n (v ∷ []) l (both _ _ c refl) (h, tt)).0

  closed_moved : (n : ℕ) (ls : List Line) → n + length ls ≡ length all → lines_checked all n ls ≡ true → Closed on keep (numbered n ls) → Closed on more (numbered n ls)
  closed_moved n [] e c h = tt
  closed_moved n (l ∷ ls) e c h =
      let here : n < length all = omega (arith, e) in (
        (λ s. same n here ∙ h.0 s),
        (λ k. vals_moved n (vals_of l) (omega (arith, here)) (checked_vals all n l (and_left _ _ c)) (h.1 (sym (same n here) ∙ k))),
        closed_moved (suc n) ls (omega (arith, e)) (and_right (line_checked all n l) _ c) h.2,
      )

module _ (on : ℕ → Bool) (all : List Line) (keep more sunk down : ℕ → Bool) (same : (j : ℕ) → j < length all → more j ≡ keep j) (low : (j : ℕ) → j < length all → down j ≡ sunk j) where
  both_same : (j : ℕ) → j < length all → either more down j ≡ either keep sunk j
  both_same j l = ap (λ b. b || down j) (same j l) ∙ ap (λ b. keep j || b) (low j l)

  sunk_moved : (n : ℕ) (ls : List Line) → n + length ls ≡ length all → lines_checked all n ls ≡ true → AllSunk on keep sunk (numbered n ls) → AllSunk on more down (numbered n ls)
  sunk_moved n [] e c h = tt
  sunk_moved n (l ∷ ls) e c h =
      let here : n < length all = omega (arith, e) in (
        (λ k. let q = h.0 (sym (low n here) ∙ k) in (
          q.0,
          vals_moved on all (either keep sunk) (either more down) both_same n (vals_of l) (omega (arith, here)) (checked_vals all n l (and_left _ _ c)) q.1,
        )),
        sunk_moved (suc n) ls (omega (arith, e)) (and_right (line_checked all n l) _ c) h.1,
      )

none_behind : (xs : List Bool) (j : ℕ) → length xs ≤ j → get_or xs j false ≡ false
none_behind [] j l = refl
none_behind (x ∷ xs) zero l = absurd (omega (arith, l))
none_behind (x ∷ xs) (suc j) l = none_behind xs j (omega (arith, l))

exit_named : (ls : List Line) (n : ℕ) (x : Exit) → exit_checked ls n x ≡ true → vals_checked ls n (exit_vals x) ≡ true
exit_named ls n (Jump to) c = refl
exit_named ls n (Cond test taken next) c = both _ _ c refl
exit_named ls n (Way v) c = both _ _ c refl
exit_named ls n (Island len) c = refl

pub splits_closed : EachSplitServes → EachSplitIsListed → SplitsAreClosed
splits_closed serve list b key on c f =
    let live : ℕ → Bool = live_at key.exits in
    let unknown : Bool = has_fallback b.exit (starts_of key.exits) in
    let s : IsSplit on live unknown b (body_of live unknown b) (sunk_of live unknown b) = serve b on live unknown c f in
    let l = list b key in
    let w = whole b c in
    let body : ℕ → Bool = is_in (split_of b key).body in
    let sunk : ℕ → Bool = is_in (split_of b key).sunk in
    let behind : (j : ℕ) → length b.lines ≤ j → sunk j ≡ false = λ j g. none_behind (split_of b key).sunk j (let n = l.sunk_length in omega (arith, n, g)) in
    record {
      runs = closed_moved on b.lines (body_of live unknown b) body l.body 0 b.lines (omega arith) w.each s.runs;
      exit = vals_moved on b.lines (body_of live unknown b) body l.body (length b.lines) (exit_vals b.exit) (omega arith) (exit_named b.lines (length b.lines) b.exit w.exit) s.exit;
      outs = λ v m a. val_moved on b.lines (body_of live unknown b) body l.body (length b.lines) (get_or b.outs v (val.Num 0)) (omega arith) (w.outs v (let n = w.count in omega (arith, n, m))) (s.outs v m a);
      apart = λ j e. ⊎_elim (λ (g : j < length b.lines). l.sunk j g ∙ s.apart j (sym (l.body j g) ∙ e)) (λ (g : length b.lines ≤ j). behind j g) (cases_lt j (length b.lines));
      none = λ u j. ⊎_elim (λ (g : j < length b.lines). l.sunk j g ∙ s.none u j) (λ (g : length b.lines ≤ j). behind j g) (cases_lt j (length b.lines));
      moves = λ u. sunk_moved on b.lines (body_of live unknown b) body (sunk_of live unknown b) sunk l.body l.sunk 0 b.lines (omega arith) w.each (s.moves u);
      all_outs = λ u v m. val_moved on b.lines (either (body_of live unknown b) (sunk_of live unknown b)) (either body sunk) (both_same on b.lines (body_of live unknown b) body (sunk_of live unknown b) sunk l.body l.sunk) (length b.lines) (get_or b.outs v (val.Num 0)) (omega arith) (w.outs v (let n = w.count in omega (arith, n, m))) (s.all_outs u v m);
    }

-- ---- all registers feed each block

all_on : (ls : List Line) → LinesOn every ls
all_on [] = tt
all_on (l ∷ ls) = (vals_in every (vals_of l) (λ j e. refl), all_on ls)

feeds_all : (b : Block) (live : ℕ → Bool) (unknown : Bool) → Feeds every live unknown b
feeds_all b live unknown = record {
  lines = all_on b.lines;
  exit = vals_in every (exit_vals b.exit) (λ j e. refl);
  outs = λ v l a. val_in every (get_or b.outs v (val.Num 0)) (λ j e. refl);
}

-- ---- so the split has with a line the lines that it names

named_in : (on keep : ℕ → Bool) (v : Val) (j : ℕ) → NamedIn on keep v → IsNamed v j → keep j ≡ true
named_in on keep (val.Param v) j h i = absurd i
named_in on keep (val.Line k) j h i = subst (λ n. keep n ≡ true) i h
named_in on keep (val.Num n) j h i = absurd i

names_in : (on keep : ℕ → Bool) (l : Line) (j : ℕ) → ValsIn on keep (vals_of l) → Names l j → keep j ≡ true
names_in on keep (Bin op a b) j h (inl i) = named_in on keep a j h.0 i
names_in on keep (Bin op a b) j h (inr i) = named_in on keep b j h.1.0 i
names_in on keep (One op a) j h i = named_in on keep a j h.0 i
names_in on keep (Select c a b) j h (inl i) = named_in on keep c j h.0 i
names_in on keep (Select c a b) j h (inr (inl i)) = named_in on keep a j h.1.0 i
names_in on keep (Select c a b) j h (inr (inr i)) = named_in on keep b j h.1.1.0 i
names_in on keep (Load w at) j h i = named_in on keep at j h.0 i
names_in on keep (Store w at a) j h (inl i) = named_in on keep at j h.0 i
names_in on keep (Store w at a) j h (inr i) = named_in on keep a j h.1.0 i
names_in on keep Gone j h i = absurd i

closed_at : (on keep : ℕ → Bool) (n : ℕ) (ls : List Line) (k i : ℕ) → i ≡ n + k → k < length ls → Closed on keep (numbered n ls) → keep i ≡ true → ValsIn on keep (vals_of (get_or ls k Gone))
closed_at on keep n [] k i e l h g = absurd (omega (arith, l))
closed_at on keep n (x ∷ ls) zero i e l h g = let z : i ≡ n = omega (arith, e) in h.1 (ap keep (sym z) ∙ g)
closed_at on keep n (x ∷ ls) (suc k) i e l h g = closed_at on keep (suc n) ls k i (omega (arith, e)) (omega (arith, l)) h.2 g

sunk_at : (on keep sunk : ℕ → Bool) (n : ℕ) (ls : List Line) (k i : ℕ) → i ≡ n + k → k < length ls → AllSunk on keep sunk (numbered n ls) → sunk i ≡ true → ValsIn on (either keep sunk) (vals_of (get_or ls k Gone))
sunk_at on keep sunk n [] k i e l h g = absurd (omega (arith, l))
sunk_at on keep sunk n (x ∷ ls) zero i e l h g = let z : i ≡ n = omega (arith, e) in (h.0 (ap sunk (sym z) ∙ g)).1
sunk_at on keep sunk n (x ∷ ls) (suc k) i e l h g = sunk_at on keep sunk (suc n) ls k i (omega (arith, e)) (omega (arith, l)) h.1 g

pub split_is : SplitsAreClosed → (b : Block) (key : BlockKey) → checked b ≡ true → IsPlaceable b (split_of b key)
split_is closed b key c =
    let live : ℕ → Bool = live_at key.exits in
    let unknown : Bool = has_fallback b.exit (starts_of key.exits) in
    let body : ℕ → Bool = is_in (split_of b key).body in
    let sunk : ℕ → Bool = is_in (split_of b key).sunk in
    let s : IsSplit every live unknown b body sunk = closed b key every c (feeds_all b live unknown) in
    let in_body : (i j : ℕ) → i < length b.lines → body i ≡ true → Names (get_or b.lines i Gone) j → body j ≡ true = λ i j l e n.
    names_in every body (get_or b.lines i Gone) j (closed_at every body 0 b.lines i i (omega arith) l s.runs e) n in
    let in_sunk : (i j : ℕ) → i < length b.lines → sunk i ≡ true → Names (get_or b.lines i Gone) j → either body sunk j ≡ true = λ i j l e n.
    ⊎_elim
    (λ (u : unknown ≡ true). names_in every (either body sunk) (get_or b.lines i Gone) j (sunk_at every body sunk 0 b.lines i i (omega arith) l (s.moves u) e) n)
    (λ (u : unknown ≡ false). absurd (let q = s.none u i in cc))
    (cases_Bool unknown) in
    record {
      body = listed_length (body_of live unknown b) 0 b.lines;
      sunk = listed_length (sunk_of live unknown b) 0 b.lines;
      apart = s.apart;
      closed = in_body;
      together = λ i j l e n. ⊎_elim
          (λ (g : body i ≡ true). or_left (body j) (sunk j) (in_body i j l g n))
          (λ (g : sunk i ≡ true). in_sunk i j l g n)
          (either_one (body i) (sunk i) e);
    }
