-- The split of a choice serves.
use Rattle.std.proofs.Common.{◌≡◌, ℕ, suc, ◌+◌, ◌<◌, ◌≤◌, Bool, true, false, List, [], ◌∷◌, ◌++◌, length, refl, sym, ap, ◌∙◌, subst, arith}
use Rattle.std.specs.Prelude.{IsTrue, ◌||◌, if◌then◌else◌}
use Rattle.std.proofs.lemmas.Bool.{true≢false}
use Rattle.par_moves.specs.declared.locations.Place.{Place}
use Rattle.par_moves.specs.Homes.{home_of}
use Rattle.ssa_form.specs.declared.form.Val.{Val}
use Rattle.ssa_form.specs.declared.form.Val.TheVariants.{Param, Line as Named, Num}
use Rattle.ssa_form.specs.declared.form.Line.{Line}
use Rattle.ssa_form.specs.declared.form.Line.TheVariants.{Bin, One, Select, Load, Store, Gone}
use Rattle.ssa_form.specs.declared.form.Exit.{Exit}
use Rattle.ssa_form.specs.declared.form.Exit.TheVariants.{Jump, Cond, Way, Island}
use Rattle.ssa_form.specs.declared.form.Block.{Block}
use Rattle.ssa_form.specs.Same.{rows}
use Rattle.ssa_form.specs.Value.{numbered}
use Rattle.pass_dead.specs.Names.{vals_of, exit_vals, is_store, ValsIn}
use Rattle.pass_dead.specs.Names as dead
use Rattle.stub_sink.specs.Serving.{IsQuiet, IsSplit}
use Rattle.stub_sink.specs.Serving as sink
use Rattle.reg_place.specs.Places.{is_in}
use Rattle.block_make.specs.Choices.{Choice}
use Rattle.sim_runs.specs.Lines.{NamedIn, LineIn, MustStay, Closed, Below, LineBelow, Ordered, either, IsSunk, AllSunk}
use Rattle.sim_runs.specs.Coding.{out_at, Coding, Exits, ExitIn, Serves}
use Rattle.sim_runs.specs.PlacedLines.{AreServing, PlacesServe}
use Rattle.piece_laws.specs.Choices.{coding_of}
use Rattle.piece_laws.specs.Parts.{StandsFor, PartedServe}
use Rattle.piece_laws.proofs.Checked.{Checks, LineChecks, RowsCheck, rows_check, out_checks}

length_rows : (i : ℕ) (ls : List Line) → length (numbered i ls) ≡ length ls
length_rows i [] = refl
length_rows i (l ∷ ls) = let q = length_rows (suc i) ls in omega (arith, q)

below_val : (ls : List Line) (n : ℕ) (v : Val) → Checks ls n v → Below n v
below_val ls n (Param v) h = tt
below_val ls n (Named j) h = h.0
below_val ls n (Num k) h = tt

below_line : (ls : List Line) (n : ℕ) (l : Line) → LineChecks ls n l → LineBelow n l
below_line ls n (Bin op a b) h = (below_val ls n a h.0, below_val ls n b h.1)
below_line ls n (One op a) h = below_val ls n a h
below_line ls n (Select c a b) h = (below_val ls n c h.0, below_val ls n a h.1, below_val ls n b h.2)
below_line ls n (Load w at) h = below_val ls n at h
below_line ls n (Store w at a) h = (below_val ls n at h.0, below_val ls n a h.1)
below_line ls n Gone h = tt

ordered : (ls : List Line) (at : ℕ) (ps : List (ℕ × Line)) → RowsCheck ls at ps → Ordered at ps
ordered ls at [] h = tt
ordered ls at (p ∷ ps) h = (h.0, below_line ls at p.1 h.2, ordered ls (suc at) ps h.4)

-- ---- names

named_is : (on keep : ℕ → Bool) (v : Val) → dead.NamedIn on keep v → NamedIn on keep v
named_is on keep (Param v) h = h
named_is on keep (Named j) h = h
named_is on keep (Num n) h = tt

line_is : (on keep : ℕ → Bool) (l : Line) → ValsIn on keep (vals_of l) → LineIn on keep l
line_is on keep (Bin op a b) h = (named_is on keep a h.0, named_is on keep b h.1.0)
line_is on keep (One op a) h = named_is on keep a h.0
line_is on keep (Select c a b) h = (named_is on keep c h.0, named_is on keep a h.1.0, named_is on keep b h.1.1.0)
line_is on keep (Load w at) h = named_is on keep at h.0
line_is on keep (Store w at a) h = (named_is on keep at h.0, named_is on keep a h.1.0)
line_is on keep Gone h = tt

stays : (keep : ℕ → Bool) (i : ℕ) (l : Line) → (is_store l ≡ true → keep i ≡ true) → MustStay keep i l
stays keep i (Bin op a b) h = tt
stays keep i (One op a) h = tt
stays keep i (Select c a b) h = tt
stays keep i (Load w at) h = tt
stays keep i (Store w at a) h = h refl
stays keep i Gone h = tt

closed_is : (on keep : ℕ → Bool) (ps : List (ℕ × Line)) → sink.Closed on keep ps → Closed on keep ps
closed_is on keep [] h = tt
closed_is on keep (p ∷ ps) h = (stays keep p.0 p.1 h.0, (λ e. line_is on keep p.1 (h.1 e)), closed_is on keep ps h.2)

exit_is : (on keep : ℕ → Bool) (x : Exit) → ValsIn on keep (exit_vals x) → ExitIn on keep x
exit_is on keep (Jump to) h = tt
exit_is on keep (Cond test taken next) h = named_is on keep test h.0
exit_is on keep (Way v) h = named_is on keep v h.0
exit_is on keep (Island len) h = tt

or_if : (a b : Bool) → (a || b) ≡ true → (if a then true else b) ≡ true
or_if true b e = refl
or_if false b e = e

either_is : (on f g : ℕ → Bool) (v : Val) → dead.NamedIn on (sink.either f g) v → NamedIn on (either f g) v
either_is on f g (Param v) h = h
either_is on f g (Named j) h = or_if (f j) (g j) h
either_is on f g (Num n) h = tt

sunk_is : (on f g : ℕ → Bool) (l : Line) → IsQuiet l → ValsIn on (sink.either f g) (vals_of l) → IsSunk on f g l
sunk_is on f g (Bin op a b) q h = (either_is on f g a h.0, either_is on f g b h.1.0)
sunk_is on f g (One op a) q h = either_is on f g a h.0
sunk_is on f g (Select c a b) q h = (either_is on f g c h.0, either_is on f g a h.1.0, either_is on f g b h.1.1.0)
sunk_is on f g (Load w at) q h = absurd (true≢false q.no_load)
sunk_is on f g (Store w at a) q h = absurd (true≢false (sym q.result))
sunk_is on f g Gone q h = absurd (true≢false (sym q.result))

all_sunk_is : (on f g : ℕ → Bool) (ps : List (ℕ × Line)) → sink.AllSunk on f g ps → AllSunk on f g ps
all_sunk_is on f g [] h = tt
all_sunk_is on f g (p ∷ ps) h = ((λ e. sunk_is on f g p.1 (h.0 e).0 (h.0 e).1), all_sunk_is on f g ps h.1)

module _ (home : ℕ → Place) (on : ℕ → Bool) (exits : Exits) (b : Block) (c : Choice) (homes : (v : ℕ) → home v ≡ home_of v) (stands : StandsFor b c) (serving : AreServing c.block c.split) (split : IsSplit on exits.live exits.unknown c.block (is_in c.split.body) (is_in c.split.sunk)) where
  abbrev k : Coding
  k = coding_of c

  abbrev ls : List Line
  ls = c.block.lines

  checks : RowsCheck ls 0 (rows c.block)
  checks = rows_check c.block stands.whole stands.words

  pub serve : Serves home on b exits k
  serve = record {
    few = stands.few;
    order = ordered ls 0 (rows c.block) checks;
    named = λ v l. subst (λ n. Below n (out_at c.block v)) (sym (length_rows 0 ls)) (below_val ls (length ls) (out_at c.block v) (out_checks c.block stands.whole stands.words v));
    kind = stands.kind;
    same = stands.same;
    body = closed_is on k.body (rows c.block) split.runs;
    exit = exit_is on k.body c.block.exit split.exit;
    outs = λ v l h. named_is on k.body (out_at c.block v) (split.outs v l h);
    apart = split.apart;
    sunk = λ u. all_sunk_is on k.body k.sunk (rows c.block) (split.moves u);
    all_outs = λ u v l. either_is on k.body k.sunk (out_at c.block v) (split.all_outs u v l);
    places = λ j l. let p = serving.places j in record { free = λ v m e. p.free v m (sym (homes v) ∙ e); register = p.register; slot = p.slot };
    lasting = serving.lasting;
  }

pub parted_serve : PlacesServe → PartedServe
parted_serve places home on exits b c homes stands listed split = serve home on exits b c homes stands (places.serve c.block c.split stands.whole stands.few listed) split
