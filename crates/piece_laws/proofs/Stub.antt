-- Side exits, and the ways to known blocks.
use Rattle.std.proofs.Common.{◌≡◌, ℕ, ◌+◌, ◌^◌, ◌<◌, Bool, true, false, List, [], ◌∷◌, ◌++◌, length, None, refl, sym, ap, ◌∙◌, subst, arith, inr}
use Rattle.br_word.specs.Memory.{Region, HoldBytes}
use Rattle.br_word.specs.Words.{bit}
use Rattle.br_word.specs.State.{State, Flag, CF, PF, ZF, SF, OF, flag_of}
use Rattle.par_moves.specs.declared.locations.Place.{Place}
use Rattle.par_moves.specs.declared.locations.Place.TheVariants.{Reg, Slot}
use Rattle.par_moves.specs.Locations.{same_place, IsKept, held}
use Rattle.par_moves.specs.Homes.{home_of, register_homes}
use Rattle.ssa_form.specs.declared.form.Val.{Val}
use Rattle.ssa_form.specs.declared.form.Val.TheVariants.{Param, Line as Named, Num}
use Rattle.ssa_form.specs.Agree.{AreBits, number}
use Rattle.ssa_form.specs.Value.{Env, AllAllowed, fold, value, outs_of}
use Rattle.emit_ops.specs.Templates.{held_by}
use Rattle.fall_stubs.specs.Exchange.{opening_items}
use Rattle.ia_encode.specs.declared.item.Dest.{Dest}
use Rattle.ia_encode.specs.declared.item.Dest.TheVariants.{Block as ToBlock, Original as ToOriginal}
use Rattle.ia_encode.specs.declared.item.Item.TheVariants.{Jump}
use Rattle.ia_encode.specs.Items.{size_of_items}
use Rattle.code_laws.specs.Seen.{Cells, Sees, private_region, word}
use Rattle.code_laws.specs.Exchange.{FlagsHeld}
use Rattle.code_laws.specs.Exchange as exchange
use Rattle.code_laws.specs.Placed.{Holds, Left, IsVal, IsNamed}
use Rattle.code_laws.specs.Moves.{AreOuts, Settled}
use Rattle.code_laws.specs.Laws.{Comes}
use Rattle.code_laws.proofs.Runs.{at_seen}
use Rattle.reg_place.specs.Places.{is_in}
use Rattle.block_make.specs.declared.fragment.TheConstants.{JUMP_SLOT}
use Rattle.block_make.specs.Choices.{Choice, place_in}
use Rattle.block_make.specs.Keys.{has}
use Rattle.block_make.specs.FragmentItems.{lines_items, moves_items, regain_items, stub_items, tail_items}
use Rattle.sim_runs.specs.Relation.{Plan}
use Rattle.sim_runs.specs.Coding.{Exits, out_at, NamedLater}
use Rattle.sim_runs.specs.Recovered.{Coded}
use Rattle.sim_runs.specs.Passes.{Gets, StandsFrom, Passes, count_of}
use Rattle.sim_runs.specs.Pieces.{Held, Tailed, Returned}
use Rattle.sim_runs.proofs.Pass.{gets_then, gets_map, size_cut, stands_cut, count_cut}
use Rattle.piece_laws.specs.Choices.{coding_of, Suits}
use Rattle.piece_laws.proofs.Named.{named_it}
use Rattle.piece_laws.proofs.Served.{sunk_of, Ready}
use Rattle.piece_laws.proofs.Steps.{Below, lines_get, moves_get, leaving_gets, jump_gets}

pub slot_kept : (k : ℕ) → IsKept (Slot k)
slot_kept k = record { not_eax = refl; not_ecx = refl }

held_value : (limit : ℕ) (home place : ℕ → Place) (last : ℕ → Bool) (e : Env) (b : Cells) → Holds limit home place last [] e b → (x : Val) → IsVal limit x → ((j : ℕ) → IsNamed x j → last j ≡ true) → held b.cell (held_by home place x) ≡ value e x
held_value limit home place last e b h (Param v) i u = h.params v i
held_value limit home place last e b h (Named j) i u = h.lines j i (u j refl)
held_value limit home place last e b h (Num n) i u = refl

-- what may be named behind the body: homes, and lines of the body that are named there
abbrev pub IsEnd : Choice → Val → Type 0
IsEnd c (Param v) = v < 14
IsEnd c (Named j) = (is_in c.split.body j ≡ true) × NamedLater c.block j (sunk_of c)
IsEnd c (Num n) = Unit {0}

-- registers and flags are the numbers, memory is this, the slots of flags hold bits, that of DF its bit, and the slot
-- of jumps is as before
pub record Regained (g : ℕ → ℕ) (outer : List Region) (b d : Cells) : Type 0 where
  pub regs : (v : ℕ) → v < 8 → d.cell (Reg v) ≡ g v
  pub flags : (f : Flag) → bit (flag_of f d.flags) ≡ g (number f)
  pub df : bit d.df ≡ g 13
  pub flag_slots : (f : Flag) → d.cell (Slot (number f)) < 2
  pub df_slot : d.cell (Slot 13) ≡ bit d.df
  pub outer_is : d.outer ≡ outer
  pub seen : d.seen ≡ b.seen
  pub brk_start : d.brk_start ≡ b.brk_start
  pub brk : d.brk ≡ b.brk
  pub spared : d.cell (Slot JUMP_SLOT) ≡ b.cell (Slot JUMP_SLOT)

module _ (c : Coded) (below : Below c.code) (homes : (v : ℕ) → c.home v ≡ home_of v) (exits : Exits) (choice : Choice) (ready : Ready choice exits) (suits : Suits choice) (are : AreOuts (length choice.block.lines) choice.block.outs) (dest : Dest → ℕ) (env : Env) where
  abbrev limit : ℕ
  limit = length choice.block.lines

  abbrev place : ℕ → Place
  place = place_in choice

  -- ---- the numbers of the outs to registers and flags
  module _ (unknown : exits.unknown ≡ true) (bytes : HoldBytes env.mem) (allowed : AllAllowed (sunk_of choice) env) (bits : AreBits (outs_of choice.block.outs (fold (sunk_of choice) env))) where
    abbrev whole : Env
    whole = fold (sunk_of choice) env

    abbrev out : ℕ → ℕ
    out = outs_of choice.block.outs whole

    abbrev pub Gained : Cells → ℕ → State → Type 0
    Gained b to = Comes c.code to (Regained out whole.mem b)

    home_is : (q r : Cells) → Holds limit home_of place ready.after [] whole q → Settled home_of place (λ v. true) choice.block.outs q r → (v : ℕ) → v < 14 → r.cell (home_of v) ≡ out v
    home_is q r h m v l = m.taken v l refl ∙ held_value limit home_of place ready.after whole q h (out_at choice.block v) (are.each v l) (λ j n. (ready.after_out j (inr (v, l, named_it (out_at choice.block v) j n))).1)

    flags_held : (q r : Cells) → Holds limit home_of place ready.after [] whole q → Settled home_of place (λ v. true) choice.block.outs q r → FlagsHeld r
    flags_held q r h m = record {
      cf = subst (λ n. n < 2) (sym (home_is q r h m 8 (omega arith))) (bits.flags CF);
      pf = subst (λ n. n < 2) (sym (home_is q r h m 9 (omega arith))) (bits.flags PF);
      zf = subst (λ n. n < 2) (sym (home_is q r h m 10 (omega arith))) (bits.flags ZF);
      sf = subst (λ n. n < 2) (sym (home_is q r h m 11 (omega arith))) (bits.flags SF);
      of = subst (λ n. n < 2) (sym (home_is q r h m 12 (omega arith))) (bits.flags OF);
      df = subst (λ n. n < 2) (sym (home_is q r h m 13 (omega arith))) bits.df;
    }

    regained : (b q r z : Cells) → Left limit home_of place ready.after [] whole b q → Settled home_of place (λ v. true) choice.block.outs q r → exchange.Opened register_homes r z → Regained out whole.mem b z
    regained b q r z h m w = record {
      regs = λ v l. w.registers v l ∙ home v (omega arith);
      flags = flags;
      df = w.df ∙ home 13 (omega arith);
      flag_slots = flag_slots;
      df_slot = w.others 13 (omega arith) ∙ sym w.df;
      outer_is = w.besides.outer ∙ m.besides.outer ∙ h.holds.mem;
      seen = w.besides.seen ∙ m.besides.seen ∙ h.seen;
      brk_start = w.besides.brk_start ∙ m.besides.brk_start ∙ h.brk_start;
      brk = w.besides.brk ∙ m.besides.brk ∙ h.brk;
      spared = w.others JUMP_SLOT (omega arith) ∙ m.others (Slot JUMP_SLOT) (slot_kept JUMP_SLOT) (λ v l. not_jump v l) refl ∙ h.kept (Slot JUMP_SLOT) (omega arith) (slot_kept JUMP_SLOT) (λ j l. (suits.clear j l));
    }
      where
        not_jump : (v : ℕ) → v < 14 → same_place (home_of v) (Slot JUMP_SLOT) ≡ false
        not_jump v l = below.homes.slots v JUMP_SLOT l (omega arith)

        home : (v : ℕ) → v < 14 → r.cell (home_of v) ≡ out v
        home = home_is q r h.holds m

        flags : (f : Flag) → bit (flag_of f z.flags) ≡ out (number f)
        flags CF = w.cf ∙ home 8 (omega arith)
        flags PF = w.pf ∙ home 9 (omega arith)
        flags ZF = w.zf ∙ home 10 (omega arith)
        flags SF = w.sf ∙ home 11 (omega arith)
        flags OF = w.of ∙ home 12 (omega arith)

        bits_held : FlagsHeld r
        bits_held = flags_held q r h.holds m

        flag_slots : (f : Flag) → z.cell (Slot (number f)) < 2
        flag_slots CF = subst (λ n. n < 2) (sym (w.others 8 (omega arith))) bits_held.cf
        flag_slots PF = subst (λ n. n < 2) (sym (w.others 9 (omega arith))) bits_held.pf
        flag_slots ZF = subst (λ n. n < 2) (sym (w.others 10 (omega arith))) bits_held.zf
        flag_slots SF = subst (λ n. n < 2) (sym (w.others 11 (omega arith))) bits_held.sf
        flag_slots OF = subst (λ n. n < 2) (sym (w.others 12 (omega arith))) bits_held.of

    pub regain_gets : (label : ℕ) (b : Cells) (at : ℕ) (u : State) (cs : List ℕ) → StandsFrom dest c.code at (regain_items choice label) → Sees c.code u b → u.eip ≡ at → Holds limit home_of place ready.after (sunk_of choice) env b →
        Gets (Gained b (at + size_of_items (regain_items choice label))) 0 (count_of (regain_items choice label)) u cs
    regain_gets label b at u cs s h e holds =
        let one = lines_items choice choice.split.sunk in
        let two = moves_items choice (λ v. true) in
        let three = opening_items register_homes label in
        let to = at + size_of_items (regain_items choice label) in
        let n = count_cut dest c.code one (two ++ three) in
        let m = count_cut dest c.code two three in
        let x = size_cut dest c.code one (two ++ three) in
        let y = size_cut dest c.code two three in
        let z : at + size_of_items one + size_of_items two + size_of_items three ≡ to = omega (arith, x, y) in
        let a = stands_cut dest c.code one (two ++ three) at s in
        let d = stands_cut dest c.code two three (at + size_of_items one) a.1 in
        gets_map (Gained b to) (Gained b to) 0 0 (count_of one + (count_of two + count_of three)) _ u cs (omega arith) (omega (arith, n, m)) (λ t g. g)
        (gets_then _ (Gained b to) 0 0 _ _ u cs (lines_get c.code below dest limit home_of place ready.after ready.laid (sunk_of choice) env b at u cs (ready.sunk_safe unknown) holds allowed a.0 h e)
        (λ t ds q. gets_then _ (Gained b to) 0 0 _ _ t ds (moves_get c.code below dest limit place ready.laid (λ v. true) choice.block.outs are q.cells (at + size_of_items one) t ds d.0 q.sees q.eip)
        (λ v es r. gets_map (Comes c.code (at + size_of_items one + size_of_items two + size_of_items three) (exchange.Opened register_homes r.cells)) (Gained b to) 0 0 _ _ v es (omega arith) (omega arith)
        (λ w g. record { cells = g.cells; sees = g.sees; eip = g.eip ∙ z; holds = regained b q.cells r.cells g.cells q.holds r.holds g.holds })
        (leaving_gets c.code below dest label r.cells (at + size_of_items one + size_of_items two) v es (flags_held q.cells r.cells q.holds.holds r.holds) d.1 r.sees r.eip))))

    -- sunk lines may start where the body is done
    pub sunk_holds : (a : Cells) (at : ℕ) (u : State) → ((v : ℕ) → env.params v ≡ a.cell (c.home v)) → (h : Held c (coding_of choice) env a at u) → Holds limit home_of place ready.after (sunk_of choice) env h.cells
    sunk_holds a at u params h = record {
      params = λ v l. ap h.cells.cell (sym (homes v)) ∙ h.homes v l ∙ sym (params v);
      lines = λ j l used. let m = ready.sunk_before unknown j used in h.lines j m.0 m.1;
      mem = h.outer;
      high = h.high;
      bytes = bytes;
    }

    module _ (plan : Plan) (same_code : c.code ≡ plan.code) where
      flag_words : (own : List ℕ) (d : Cells) → ((k : ℕ) → k < 16384 → word own k ≡ d.cell (Slot k)) → ((f : Flag) → d.cell (Slot (number f)) < 2) → (f : Flag) → word own (number f) < 2
      flag_words own d same held CF = subst (λ n. n < 2) (sym (same 8 (omega arith))) (held CF)
      flag_words own d same held PF = subst (λ n. n < 2) (sym (same 9 (omega arith))) (held PF)
      flag_words own d same held ZF = subst (λ n. n < 2) (sym (same 10 (omega arith))) (held ZF)
      flag_words own d same held SF = subst (λ n. n < 2) (sym (same 11 (omega arith))) (held SF)
      flag_words own d same held OF = subst (λ n. n < 2) (sym (same 12 (omega arith))) (held OF)

      pub returned : (a b : Cells) (to y : ℕ) (t : State) → b.seen ≡ a.seen → b.brk_start ≡ a.brk_start → b.brk ≡ a.brk → Gained b to t → (at : ℕ) → at ≡ y → Returned plan y out whole.mem a (record t { eip = at })
      returned a b to y t p q r d at e = record {
        restored = record {
          own = d.sees.own;
          size = d.sees.slots.size;
          mem = d.sees.regions ∙ ap (λ m. c.code ∷ private_region d.sees.own ∷ m) d.holds.outer_is ∙ ap (λ x. x ∷ private_region d.sees.own ∷ whole.mem) same_code;
          count = d.sees.regs.count;
          regs = λ v l. d.sees.regs.each v l ∙ d.holds.regs v l;
          flags = λ f. ap (λ g. bit (flag_of f g)) d.sees.flags ∙ d.holds.flags f;
          df = ap bit d.sees.df ∙ d.holds.df;
          eip = e;
          shows = d.sees.seen ∙ d.holds.seen ∙ p;
          brk_start = d.sees.brk_start ∙ d.holds.brk_start ∙ q;
          brk = d.sees.brk ∙ d.holds.brk ∙ r;
        };
        ready = record {
          size = d.sees.slots.size;
          bytes = d.sees.slots.bytes;
          df_word = d.sees.slots.words 13 (omega arith) ∙ d.holds.df_slot ∙ sym (ap bit d.sees.df);
          flags = flag_words d.sees.own d.cells d.sees.slots.words d.holds.flag_slots;
        };
      }

      pub stub_passes : (a : Cells) (label y goal : ℕ) → ((v : ℕ) → env.params v ≡ a.cell (c.home v)) → dest (ToOriginal y) ≡ goal → goal < 2 ^ 32 → Passes dest c.code (stub_items choice label y) (Held c (coding_of choice) env a) (Returned plan goal out whole.mem a)
      stub_passes a label y goal params to low at u cs s h =
          let is = regain_items choice label in
          let js = Jump None (ToOriginal y) ∷ [] in
          let b = h.cells in
          let d = stands_cut dest c.code is js at s in
          let n = count_cut dest c.code is js in
          let Q = Returned plan goal out whole.mem a in
          gets_map Q Q 1 1 (count_of is + 1) _ u cs (omega arith) (omega (arith, n)) (λ t g. g)
          (gets_then (Gained b (at + size_of_items is)) Q 0 1 _ _ u cs (regain_gets label b at u cs d.0 h.sees h.eip (sunk_holds a at u params h))
          (λ t ds g. gets_map _ Q 1 1 1 1 t ds (omega arith) (omega arith) (λ w e. subst Q (sym e) (returned a b (at + size_of_items is) goal t h.stays.shows h.stays.brk_start h.stays.brk g (dest (ToOriginal y)) to))
          (jump_gets c.code below dest (ToOriginal y) g.cells (at + size_of_items is) t ds (omega (arith, to, low)) d.1 g.sees g.eip)))

  -- ---- into a known block
  module _ (a : Cells) (params : (v : ℕ) → env.params v ≡ a.cell (c.home v)) where
    pub end_value : (at : ℕ) (u : State) (h : Held c (coding_of choice) env a at u) (x : Val) → IsEnd choice x → held h.cells.cell (held_by home_of place x) ≡ value env x
    end_value at u h (Param v) i = ap h.cells.cell (sym (homes v)) ∙ h.homes v i ∙ sym (params v)
    end_value at u h (Named j) i = h.lines j i.0 i.1
    end_value at u h (Num n) i = refl

    pub tail_passes : (y set : ℕ) → ((v : ℕ) → v < 14 → has set v ≡ c.live y v) → ((v : ℕ) → v < 14 → c.live y v ≡ true → IsEnd choice (out_at choice.block v)) → dest (ToBlock y) ≡ c.address y → c.address y < 2 ^ 32 →
        Passes dest c.code (tail_items choice set y) (Held c (coding_of choice) env a) (Tailed c (coding_of choice) env a y)
    tail_passes y set live ends to low at u cs s h =
        let is = moves_items choice (has set) in
        let js = Jump None (ToBlock y) ∷ [] in
        let b = h.cells in
        let d = stands_cut dest c.code is js at s in
        let n = count_cut dest c.code is js in
        let Q = Tailed c (coding_of choice) env a y in
        gets_map Q Q 1 1 (count_of is + 1) _ u cs (omega arith) (omega (arith, n)) (λ t g. g)
        (gets_then (Comes c.code (at + size_of_items is) (Settled home_of place (has set) choice.block.outs b)) Q 0 1 _ _ u cs (moves_get c.code below dest limit place ready.laid (has set) choice.block.outs are b at u cs d.0 h.sees h.eip)
        (λ t ds g. gets_map _ Q 1 1 1 1 t ds (omega arith) (omega arith)
        (λ w e. subst Q (sym e) (record {
          cells = g.cells;
          sees = at_seen t g.cells (dest (ToBlock y)) g.sees;
          there = to;
          outer = g.holds.besides.outer ∙ h.outer;
          homes = λ v l on. ap g.cells.cell (homes v) ∙ g.holds.taken v l (live v l ∙ on) ∙ end_value at u h (out_at choice.block v) (ends v l on);
          others = λ v l off. ap g.cells.cell (homes v) ∙ g.holds.kept v l (live v l ∙ off) ∙ ap b.cell (sym (homes v)) ∙ h.homes v l;
          stays = record { shows = g.holds.besides.seen ∙ h.stays.shows; brk_start = g.holds.besides.brk_start ∙ h.stays.brk_start; brk = g.holds.besides.brk ∙ h.stays.brk };
        }))
        (jump_gets c.code below dest (ToBlock y) g.cells (at + size_of_items is) t ds (omega (arith, to, low)) d.1 g.sees g.eip)))
