-- Lines, moves, the restore and a jump as passes.
use Rattle.std.proofs.Common.{◌≡◌, ℕ, ◌+◌, ◌^◌, ◌<◌, ◌≤◌, Bool, List, [], ◌∷◌, map, length, None, Some, refl, sym, ap, ◌∙◌, subst, arith, ⊎_elim, All}
use Rattle.std.specs.Prelude.{IsTrue}
use Rattle.std.proofs.lemmas.Bool.{cases_lt}
use Rattle.br_word.specs.Memory.{Region}
use Rattle.br_word.specs.State.{State}
use Rattle.ia_inst.specs.declared.inst.Inst.{Inst}
use Rattle.ia_inst.specs.Canonical.{canonical, valid_of}
use Rattle.ia_inst.specs.Instructions.{decode_of}
use Rattle.run_model.specs.Run.{Observation, observed, run}
use Rattle.run_model.specs.Sound.{StoresBytes}
use Rattle.par_moves.specs.declared.locations.Place.{Place}
use Rattle.par_moves.specs.declared.locations.Place.TheVariants.{Slot}
use Rattle.par_moves.specs.Homes.{home_of, register_homes}
use Rattle.reg_place.specs.Laws.{HomesLie}
use Rattle.ssa_form.specs.declared.form.Line.{Line}
use Rattle.ssa_form.specs.declared.form.Val.{Val}
use Rattle.ssa_form.specs.Value.{Env, AllAllowed, fold}
use Rattle.emit_ops.specs.Sequences.{lines_code, moves_code, live_moves, in_order}
use Rattle.fall_stubs.specs.Exchange.{opening_items}
use Rattle.ia_encode.specs.declared.item.Dest.{Dest}
use Rattle.ia_encode.specs.declared.item.Item.TheVariants.{Inst as Put, Jump}
use Rattle.ia_encode.specs.Items.{size_of_items, jump_inst, distance, Reads, Stands, StandsAt}
use Rattle.code_laws.specs.Seen.{Cells, Sees, Leads, Quiet}
use Rattle.code_laws.specs.Exchange.{FlagsHeld, Opened}
use Rattle.code_laws.specs.Placed.{Laid, Safe, Holds, Left, LinesHold}
use Rattle.code_laws.specs.Moves.{HomesApart, AreOuts, Settled, MovesSettle}
use Rattle.code_laws.specs.Laws.{Comes, ExchangeKeeps, TemplateMeans, JumpsLead, TestsMean}
use Rattle.code_laws.proofs.Runs.{leads_run}
use Rattle.sim_runs.specs.Passes.{Gets, StandsFrom, count_of}

-- what the laws below give about this code
pub record Below (code : Region) : Type 0 where
  pub lines : (limit : ℕ) (home place : ℕ → Place) (last : ℕ → Bool) → Laid limit home place → LinesHold code limit home place last
  pub settle : (limit : ℕ) (home place : ℕ → Place) → Laid limit home place → HomesApart home → MovesSettle code limit home place
  pub apart : HomesApart home_of
  pub homes : HomesLie
  pub template : (s : State) (a : Cells) (to : ℕ) (cs : List ℕ) → Sees code s a → TemplateMeans code s a to cs
  pub tests : (s : State) (a : Cells) (to : ℕ) (cs : List ℕ) → Sees code s a → TestsMean code s a to cs
  pub jumps : (dest : Dest → ℕ) → JumpsLead code dest
  pub exchange : (dest : Dest → ℕ) (s : State) (a : Cells) (cs : List ℕ) → Sees code s a → FlagsHeld a → ExchangeKeeps code register_homes dest s a cs
  pub valid : (bs : List ℕ) (i : Inst) (n : ℕ) → All (λ b. b < 256) bs → decode_of bs ≡ Some (i, n) → IsTrue (valid_of i)
  pub stores : StoresBytes

pub gets_of : (v : Observation) (P : State → Type 0) (j n high : ℕ) (s : State) (cs : List ℕ) → observed s ≡ v → ((t : State) → P t → observed t ≡ v) → j ≤ n → n ≤ high → Leads (Quiet v) P n s cs → Gets P j high s cs
gets_of v P j n high s cs now shown low top l =
    let r = leads_run (Quiet v) P n s cs l in
    record {
      steps = n;
      enough = low;
      bound = top;
      shows = λ i k. ⊎_elim
          (λ (c : i < n). (r.1 i c).shows ∙ sym now)
          (λ (c : n ≤ i). let z : i ≡ n = omega arith in ap (λ i. observed (run i s cs)) z ∙ shown (run n s cs) r.0 ∙ sym now)
          (cases_lt i n);
      inside = λ i k. (r.1 i k).in_code;
      there = r.0;
    }

pub puts_stand : (dest : Dest → ℕ) (code : Region) (is : List Inst) (at to : ℕ) → Stands dest code at (map Put is) to → StandsAt code at is to
puts_stand dest code [] at to s = s
puts_stand dest code (i ∷ is) at to s = (s.0, puts_stand dest code is (at + length (canonical i)) to s.1)

pub puts_count : (is : List Inst) → count_of (map Put is) ≡ length is
puts_count [] = refl
puts_count (i ∷ is) = let q = puts_count is in omega (arith, q)

module _ (code : Region) (below : Below code) (dest : Dest → ℕ) where
  pub lines_get : (limit : ℕ) (home place : ℕ → Place) (last : ℕ → Bool) → Laid limit home place → (ps : List (ℕ × Line)) (e : Env) (b : Cells) (at : ℕ) (u : State) (cs : List ℕ) →
      Safe limit place last ps → Holds limit home place last ps e b → AllAllowed ps e → StandsFrom dest code at (map Put (lines_code home place ps)) → Sees code u b → u.eip ≡ at →
      Gets (Comes code (at + size_of_items (map Put (lines_code home place ps))) (Left limit home place last [] (fold ps e) b)) 0 (count_of (map Put (lines_code home place ps))) u cs
  lines_get limit home place last laid ps e b at u cs safe holds allowed s h q =
      let is = lines_code home place ps in
      let to = at + size_of_items (map Put is) in
      let n = puts_count is in
      gets_of b.seen (Comes code to (Left limit home place last [] (fold ps e) b)) 0 (length is) (count_of (map Put is)) u cs h.seen (λ t c. c.sees.seen ∙ c.holds.seen) (omega arith) (omega (arith, n))
      (below.lines limit home place last laid ps u e b to cs h safe holds allowed (subst (λ x. StandsAt code x is to) (sym q) (puts_stand dest code is at to s)))

  -- the moves of a live set
  abbrev pub set_code : (ℕ → Place) → (ℕ → Bool) → List Val → List Inst
  set_code place live outs = moves_code (in_order (live_moves home_of place live 0 outs))

  pub moves_get : (limit : ℕ) (place : ℕ → Place) → Laid limit home_of place → (live : ℕ → Bool) (outs : List Val) → AreOuts limit outs → (b : Cells) (at : ℕ) (u : State) (cs : List ℕ) →
      StandsFrom dest code at (map Put (set_code place live outs)) → Sees code u b → u.eip ≡ at →
      Gets (Comes code (at + size_of_items (map Put (set_code place live outs))) (Settled home_of place live outs b)) 0 (count_of (map Put (set_code place live outs))) u cs
  moves_get limit place laid live outs are b at u cs s h q =
      let is = set_code place live outs in
      let to = at + size_of_items (map Put is) in
      let n = puts_count is in
      gets_of b.seen (Comes code to (Settled home_of place live outs b)) 0 (length is) (count_of (map Put is)) u cs h.seen (λ t c. c.sees.seen ∙ c.holds.besides.seen) (omega arith) (omega (arith, n))
      (below.settle limit home_of place laid below.apart live outs u b to cs h are (subst (λ x. StandsAt code x is to) (sym q) (puts_stand dest code is at to s)))

  pub leaving_gets : (label : ℕ) (b : Cells) (at : ℕ) (u : State) (cs : List ℕ) → FlagsHeld b → StandsFrom dest code at (opening_items register_homes label) → Sees code u b → u.eip ≡ at →
      Gets (Comes code (at + size_of_items (opening_items register_homes label)) (Opened register_homes b)) 0 (count_of (opening_items register_homes label)) u cs
  leaving_gets label b at u cs bits s h q =
      let to = at + size_of_items (opening_items register_homes label) in
      let d = bits.df in
      let n : 31 ≤ count_of (opening_items register_homes label) = omega arith in
      gets_of b.seen (Comes code to (Opened register_homes b)) 0 (3 + (27 + b.cell (Slot 13))) (count_of (opening_items register_homes label)) u cs h.seen (λ t c. c.sees.seen ∙ c.holds.besides.seen) (omega arith) (omega (arith, n, d))
      ((below.exchange dest u b cs h bits).leaving label to (subst (λ x. Stands dest code x (opening_items register_homes label) to) (sym q) s))

  pub jump_gets : (d : Dest) (b : Cells) (at : ℕ) (u : State) (cs : List ℕ) → dest d < 2 ^ 32 → StandsFrom dest code at (Jump None d ∷ []) → Sees code u b → u.eip ≡ at → Gets (λ t. t ≡ record u { eip = dest d }) 1 1 u cs
  jump_gets d b at u cs low s h q =
      gets_of b.seen (λ t. t ≡ record u { eip = dest d }) 1 1 1 u cs h.seen (λ t e. ap observed e ∙ h.seen) (omega arith) (omega arith)
      ((below.jumps dest).always u b d cs h low (subst (λ x. Reads code x (jump_inst None (distance (x + 5) (dest d))) 5) (sym q) s.0))
