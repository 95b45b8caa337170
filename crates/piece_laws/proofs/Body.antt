-- The body of a fragment.
use Rattle.std.proofs.Common.{◌≡◌, ℕ, ◌+◌, List, [], ◌∷◌, length, refl, sym, ap, ◌∙◌, subst, arith}
use Rattle.br_word.specs.Memory.{Region, HoldBytes}
use Rattle.br_word.specs.Words.{size_of}
use Rattle.br_word.specs.State.{State}
use Rattle.run_model.specs.Sound.{StoresBytes}
use Rattle.par_moves.specs.Homes.{home_of}
use Rattle.ssa_form.specs.declared.form.Line.{Line}
use Rattle.ssa_form.specs.declared.form.Line.TheVariants.{Bin, One, Select, Load, Store, Gone}
use Rattle.ssa_form.specs.Same.{start_env}
use Rattle.ssa_form.specs.Value.{Env, line_next, IsAllowed, AllAllowed, fold, stored, value}
use Rattle.par_moves.specs.declared.locations.Place.{Place}
use Rattle.ia_encode.specs.declared.item.Dest.{Dest}
use Rattle.ia_encode.specs.Items.{size_of_items}
use Rattle.code_laws.specs.Seen.{Cells, Sees}
use Rattle.code_laws.specs.Placed.{AllHigh, Left}
use Rattle.code_laws.specs.Laws.{Comes}
use Rattle.block_make.specs.Choices.{Choice, place_in}
use Rattle.block_make.specs.FragmentItems.{lines_items}
use Rattle.sim_laws.specs.Wider as wider
use Rattle.sim_runs.specs.Coding.{Exits}
use Rattle.sim_runs.specs.Recovered.{Coded}
use Rattle.sim_runs.specs.Passes.{Gets, StandsFrom, count_of}
use Rattle.sim_runs.specs.Pieces.{Held}
use Rattle.sim_runs.proofs.Pass.{gets_map}
use Rattle.piece_laws.specs.Choices.{coding_of}
use Rattle.piece_laws.proofs.Served.{body_of, Ready}
use Rattle.piece_laws.proofs.Steps.{Below, lines_get}

high_of : (rs : List Region) → wider.AllHigh 0x08000000 rs → AllHigh 0x07010000 rs
high_of [] h = tt
high_of (r ∷ rs) h = (let l = h.0 in omega (arith, l), high_of rs h.1)

line_bytes : StoresBytes → (l : Line) (i : ℕ) (e : Env) → IsAllowed l e → HoldBytes e.mem → HoldBytes (line_next i l e).mem
line_bytes st (Bin op a b) i e w h = h
line_bytes st (One op a) i e w h = h
line_bytes st (Select c a b) i e w h = h
line_bytes st (Load s at) i e w h = h
line_bytes st (Store s at a) i e w h = subst (λ m. HoldBytes (stored e.mem m)) (sym w.1) (st (value e at) (size_of s) (value e a) e.mem w.0 h w.1)
line_bytes st Gone i e w h = h

-- memory stays one of bytes
pub fold_bytes : StoresBytes → (ps : List (ℕ × Line)) (e : Env) → AllAllowed ps e → HoldBytes e.mem → HoldBytes (fold ps e).mem
fold_bytes st [] e w h = h
fold_bytes st (p ∷ ps) e w h = fold_bytes st ps (line_next p.0 p.1 e) w.1 (line_bytes st p.1 p.0 e w.0 h)

next_params : (i : ℕ) (l : Line) (e : Env) (v : ℕ) → (line_next i l e).params v ≡ e.params v
next_params i (Bin op a b) e v = refl
next_params i (One op a) e v = refl
next_params i (Select c a b) e v = refl
next_params i (Load w at) e v = refl
next_params i (Store w at a) e v = refl
next_params i Gone e v = refl

pub fold_params : (ps : List (ℕ × Line)) (e : Env) (v : ℕ) → (fold ps e).params v ≡ e.params v
fold_params [] e v = refl
fold_params (p ∷ ps) e v = fold_params ps (line_next p.0 p.1 e) v ∙ next_params p.0 p.1 e v

module _ (c : Coded) (below : Below c.code) (homes : (v : ℕ) → c.home v ≡ home_of v) (exits : Exits) (choice : Choice) (ready : Ready choice exits) where
  abbrev entry : Cells → Env
  entry a = start_env (λ v. a.cell (c.home v)) a.outer

  abbrev lines : List (ℕ × Line)
  lines = body_of choice

  abbrev small : ℕ
  small = length choice.block.lines

  abbrev place : ℕ → Place
  place = place_in choice

  pub body_held : (a : Cells) → wider.AllHigh 0x08000000 a.outer → HoldBytes a.outer → AllAllowed lines (entry a) →
      (dest : Dest → ℕ) (at : ℕ) (u : State) (cs : List ℕ) → StandsFrom dest c.code at (lines_items choice choice.split.body) → Sees c.code u a → u.eip ≡ at →
      Gets (Held c (coding_of choice) (fold lines (entry a)) a (at + size_of_items (lines_items choice choice.split.body))) 0 (count_of (lines_items choice choice.split.body)) u cs
  body_held a high bytes allowed dest at u cs s h e =
      let to = at + size_of_items (lines_items choice choice.split.body) in
      let P = Comes c.code to (Left small home_of place ready.last [] (fold lines (entry a)) a) in
      let H = Held c (coding_of choice) (fold lines (entry a)) a to in
      gets_map P H 0 0 _ _ u cs (omega arith) (omega arith) (λ t q. given t q)
      (lines_get c.code below dest small home_of place ready.last ready.laid lines (entry a) a at u cs ready.body_safe
      (record { params = λ v l. sym (ap a.cell (homes v)); lines = λ j l used. absurd (ready.body_unused j used); mem = refl; high = high_of a.outer high; bytes = bytes })
      allowed s h e)
    where
      given : (t : State) → Comes c.code (at + size_of_items (lines_items choice choice.split.body)) (Left small home_of place ready.last [] (fold lines (entry a)) a) t → Held c (coding_of choice) (fold lines (entry a)) a (at + size_of_items (lines_items choice choice.split.body)) t
      given t q = record {
        cells = q.cells;
        sees = q.sees;
        eip = q.eip;
        homes = λ v l. ap q.cells.cell (homes v) ∙ q.holds.kept (home_of v) (ready.laid.homes_fit v l) (ready.laid.homes v l) (λ j m. ready.laid.apart v j l m) ∙ sym (ap a.cell (homes v));
        lines = λ j k n. let m = ready.body_named j k n in q.holds.holds.lines j m.0 m.1;
        outer = q.holds.holds.mem;
        high = q.holds.holds.high;
        stays = record { shows = q.holds.seen; brk_start = q.holds.brk_start; brk = q.holds.brk };
      }
