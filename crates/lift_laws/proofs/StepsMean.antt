-- The lines of a block do what its steps do, one instruction after another.
use Rattle.std.proofs.Common.{◌≡◌, ◌≢◌, ℕ, zero, suc, ◌+◌, ◌-◌, ◌<◌, ◌≤◌, Bool, true, false, ◌&&◌, List, [], ◌∷◌, ◌++◌, length, drop, get_or, All, Option, Some, None, refl, sym, ap, ◌∙◌, subst, append_assoc, length-append, arith}
use Rattle.std.specs.Prelude.{IsTrue, if◌then◌else◌}
use Rattle.std.proofs.lemmas.List.Sums.{sum_by-cons}
use Rattle.std.proofs.lemmas.List.{append-nil}
use Rattle.std.proofs.lemmas.List.Elements.{All-head, All-tail, All-drop}
use Rattle.br_word.specs.Memory.{Region, Runs, bytes_at, covers, allows, AreBytes, HoldBytes}
use Rattle.br_word.specs.Words.{bit}
use Rattle.br_word.specs.State.{Processor, State, Running, Flag, CF, PF, ZF, SF, OF, flag_of}
use Rattle.elf_read.specs.declared.exe.Exe.{Exe}
use Rattle.elf_read.specs.Elf.{IsGuest}
use Rattle.ia_inst.specs.declared.inst.Inst.{Inst}
use Rattle.ia_inst.specs.declared.inst.Kind.{Kind}
use Rattle.ia_inst.specs.declared.inst.Kind.TheVariants as kinds
use Rattle.ia_inst.specs.Canonical.{valid_of}
use Rattle.ia_inst.specs.Instructions.{decode_of}
use Rattle.ia_inst.specs.Kinds.{kind_of, flags_read}
use Rattle.ia_inst.specs.Fits.{AsksExactly}
use Rattle.ia_inst.specs.Act.{NextEip, Completion, Next, Denied, Divided, Called, perform}
use Rattle.ia_inst.specs.Meaning.{meaning}
use Rattle.ia_inst.specs.Step.{There, found, found_from, found_in, next_eip, result_of, result_at, step_result, settled, unless_stopped, step, NoFault, AllMarked, asked_at, IsWellDefined}
use Rattle.block_cut.specs.declared.ends.End.{End}
use Rattle.block_cut.specs.declared.ends.End.TheVariants.{Transfer, Island, BeforeIsland, Unreadable, Full}
use Rattle.block_cut.specs.Places.{Placed, found_at}
use Rattle.block_cut.specs.Blocks.{StandFrom, ArePlain, EndWith, EndsSo, IsBlock, block_of, size_of, EachHasOneBlock}
use Rattle.run_model.specs.Run.{observed, run, WellDefined}
use Rattle.sim_laws.specs.ByKind.{IsQuiet}
use Rattle.sim_laws.specs.InCode.{IsStateOf}
use Rattle.sim_laws.specs.Through.{Comes, RunsThrough}
use Rattle.ssa_form.specs.declared.form.Line.{Line}
use Rattle.ssa_form.specs.declared.form.Block.{Block}
use Rattle.ssa_form.specs.Value.{Env, fold, AllAllowed, numbered, outs_of, exit_of}
use Rattle.ssa_form.specs.Agree.{AgreesOn, AreBits, every, number}
use Rattle.ssa_form.specs.Checked.{checked}
use Rattle.ssa_form.specs.Same.{start_env, end_env}
use Rattle.lift_alu.specs.Lifted.{lifted}
use Rattle.lift_alu.specs.Means.{IsLifted, Reaches, EachMeans, EachStaysChecked}
use Rattle.lift_flow.specs.LiftedBlock.{params, blank, lifted_all, lifted_to, lift_of}
use Rattle.lift_laws.specs.BlockMeans.{Gives}
use Rattle.lift_laws.proofs.NeverCalls.{no_call}
use Rattle.lift_laws.proofs.Appended.{fold_behind, allowed_behind}

-- ---- memory of bytes
abbrev IsByte : ℕ → Type 0
IsByte b = b < 256

abbrev OfBytes : Region → Type 0
OfBytes r = AreBytes r.bytes

-- what is found in memory of bytes are bytes
bytes_there : (at n : ℕ) (rs : List Region) (bs : List ℕ) → HoldBytes rs → bytes_at Runs at n rs ≡ Some bs → AreBytes bs
unfolding bytes_at
bytes_there at n [] bs h q = cc
bytes_there at n (r ∷ rs) bs h q = by_test (covers r at n && allows Runs r.perms) (λ e. bytes_there at n rs bs (All-tail OfBytes r rs h) e) q
  where
    by_test : (b : Bool) → (bytes_at Runs at n rs ≡ Some bs → AreBytes bs) → (if b then Some (drop (at - r.start) r.bytes) else bytes_at Runs at n rs) ≡ Some bs → AreBytes bs
    by_test true k e = let same : drop (at - r.start) r.bytes ≡ bs = cc in subst AreBytes same (All-drop IsByte (at - r.start) r.bytes (All-head OfBytes r rs h))
    by_test false k e = k e

-- ---- the parameters are the outs of a block without lines
params_agree : (u : Processor) (p : ℕ → ℕ) (m : List Region) → AgreesOn every u p → AgreesOn every u (outs_of params (start_env p m))
params_agree u p m a = record { regs = regs; flags = flags; df = a.df }
  where
    regs : (r : ℕ) → r < 8 → every r ≡ true → outs_of params (start_env p m) r ≡ get_or u.regs r 0
    regs zero l o = a.regs 0 l o
    regs (suc zero) l o = a.regs 1 l o
    regs (suc (suc zero)) l o = a.regs 2 l o
    regs (suc (suc (suc zero))) l o = a.regs 3 l o
    regs (suc (suc (suc (suc zero)))) l o = a.regs 4 l o
    regs (suc (suc (suc (suc (suc zero))))) l o = a.regs 5 l o
    regs (suc (suc (suc (suc (suc (suc zero)))))) l o = a.regs 6 l o
    regs (suc (suc (suc (suc (suc (suc (suc zero))))))) l o = a.regs 7 l o
    regs (suc (suc (suc (suc (suc (suc (suc (suc r)))))))) l o = absurd (omega arith)

    flags : (f : Flag) → every (number f) ≡ true → flag_of f u.marks ≡ true → outs_of params (start_env p m) (number f) ≡ bit (flag_of f u.flags)
    flags CF o k = a.flags CF o k
    flags PF o k = a.flags PF o k
    flags ZF o k = a.flags ZF o k
    flags SF o k = a.flags SF o k
    flags OF o k = a.flags OF o k

params_bits : (p : ℕ → ℕ) (m : List Region) → AreBits p → AreBits (outs_of params (start_env p m))
params_bits p m z = record { flags = flags; df = z.df }
  where
    flags : (f : Flag) → outs_of params (start_env p m) (number f) < 2
    flags CF = z.flags CF
    flags PF = z.flags PF
    flags ZF = z.flags ZF
    flags SF = z.flags SF
    flags OF = z.flags OF

-- ---- kinds
lifted_kind : (k : Kind) → k ≢ kinds.Island → IsLifted k
lifted_kind kinds.Plain n = tt
lifted_kind kinds.Transfer n = tt
lifted_kind kinds.Island n = absurd (n refl)

-- all are plain but the last, which is not native
abbrev AreAlmostPlain : List Placed → Type 0
AreAlmostPlain [] = Unit {0}
AreAlmostPlain (p ∷ []) = kind_of p.inst ≢ kinds.Island
AreAlmostPlain (p ∷ q ∷ qs) = (kind_of p.inst ≡ kinds.Plain) × AreAlmostPlain (q ∷ qs)

other_kind : (k m : Kind) → k ≡ m → m ≢ kinds.Island → k ≢ kinds.Island
other_kind k m e h f = h (sym e ∙ f)

if_plain : (is : List Placed) → ArePlain is → AreAlmostPlain is
if_plain [] h = tt
if_plain (p ∷ []) h = other_kind (kind_of p.inst) kinds.Plain h.0 (λ e. cc)
if_plain (p ∷ q ∷ qs) h = (h.0, if_plain (q ∷ qs) h.1)

if_transfer : (is : List Placed) → EndWith kinds.Transfer is → AreAlmostPlain is
if_transfer [] h = tt
if_transfer (p ∷ []) h = other_kind (kind_of p.inst) kinds.Transfer h (λ e. cc)
if_transfer (p ∷ q ∷ qs) h = (h.0, if_transfer (q ∷ qs) h.1)

almost_plain : (exe : Exe) (at : ℕ) (is : List Placed) (e : End) → e ≢ Island → EndsSo exe at is e → AreAlmostPlain is
almost_plain exe at is Transfer n h = if_transfer is h.0
almost_plain exe at is Island n h = absurd (n refl)
almost_plain exe at is BeforeIsland n h = if_plain is h.0
almost_plain exe at is Unreadable n h = if_plain is h.0
almost_plain exe at is Full n h = if_plain is h.0

lifted_plain : (e : End) (is : List Placed) (start : ℕ) → e ≢ Island → lifted_all is (blank start) ≡ lifted_to e is start
lifted_plain Transfer is start n = refl
lifted_plain Island is start n = absurd (n refl)
lifted_plain BeforeIsland is start n = refl
lifted_plain Unreadable is start n = refl
lifted_plain Full is start n = refl

-- ---- one step
pub record Nexts (i : Inst) (n : ℕ) (s : State) : Type 0 where
  pub cpu : Processor
  pub mem : List Region
  pub to : NextEip
  pub acts : perform (meaning i n s.cpu.regs s.eip s.cpu.df) 0 s.cpu s.regions ≡ Next cpu mem to
  pub state : step s 0 ≡ record s { eip = next_eip to s.eip; cpu = cpu; regions = mem }

-- where the lines so far lead, a state stands
record Stands (b : Block) (e : Env) (s : State) : Type 0 where
  whole : checked b ≡ true
  agrees : AgreesOn every s.cpu (outs_of b.outs e)
  bits : AreBits (outs_of b.outs e)
  memory : e.mem ≡ s.regions
  exit : exit_of b.exit e ≡ s.eip

-- new lines behind those of b lead from e to where t stands
record Leads (b c : Block) (e : Env) (t : State) : Type 0 where
  new : List Line
  lines : c.lines ≡ b.lines ++ new
  allowed : AllAllowed (numbered (length b.lines) new) e
  stands : Stands c (fold (numbered (length b.lines) new) e) t

abbrev ReadIsValid : Type 0
ReadIsValid = (bs : List ℕ) (i : Inst) (n : ℕ) → All (λ b. b < 256) bs → decode_of bs ≡ Some (i, n) → IsTrue (valid_of i)

module _ (asks : AsksExactly) (read : ReadIsValid) (mean : EachMeans) (stays : EachStaysChecked) (through : RunsThrough) (exe : Exe) (guest : IsGuest exe) where
  valid_in : (bs : List ℕ) (i : Inst) (n : ℕ) (o : Option (Inst × ℕ)) → AreBytes bs → decode_of bs ≡ o → found_from o ≡ There i n → IsTrue (valid_of i)
  valid_in bs i n None h q f = cc
  valid_in bs i n (Some x) h q f = let is : x.0 ≡ i = cc in subst (λ j. IsTrue (valid_of j)) is (read bs x.0 x.1 h q)

  acts_by : (i : Inst) (n : ℕ) (s : State) (k : Completion) → IsLifted (kind_of i) → perform (meaning i n s.cpu.regs s.eip s.cpu.df) 0 s.cpu s.regions ≡ k → s.stop ≡ Running → step_result s 0 ≡ result_of k s → NoFault (step_result s 0) → Nexts i n s
  unfolding step
  acts_by i n s (Next v ms to) k p r w f = record {
    cpu = v;
    mem = ms;
    to = to;
    acts = p;
    state = ap (λ x. unless_stopped x s (settled (step_result s 0) s)) r ∙ ap (λ x. settled x s) w;
  }
  acts_by i n s (Denied at) k p r w f = absurd (subst NoFault w f)
  acts_by i n s Divided k p r w f = absurd (subst NoFault w f)
  acts_by i n s (Called m) k p r w f = absurd (no_call i n m s.cpu.regs s.eip s.cpu.df 0 s.cpu s.regions k p)

  found_here : (s : State) (i : Inst) (n : ℕ) → IsStateOf exe s → found_at exe s.eip ≡ There i n → found s.eip s.regions ≡ There i n
  found_here s i n h f = h.code s.eip ∙ f

  next_of : (s : State) (i : Inst) (n : ℕ) → IsStateOf exe s → s.stop ≡ Running → found_at exe s.eip ≡ There i n → IsLifted (kind_of i) → IsWellDefined s → Nexts i n s
  next_of s i n h r f k w =
      acts_by i n s (perform (meaning i n s.cpu.regs s.eip s.cpu.df) 0 s.cpu s.regions) k refl r (ap (λ x. result_at x s 0) (found_here s i n h f)) (w.no_fault r)

  marked : (s : State) (i : Inst) (n : ℕ) → IsStateOf exe s → s.stop ≡ Running → found_at exe s.eip ≡ There i n → IsWellDefined s → AllMarked s.cpu.marks (flags_read i)
  marked s i n h r f w = subst (AllMarked s.cpu.marks) (ap (λ x. asked_at x s) (found_here s i n h f) ∙ asks i n s) (w.marked r)

  -- the lines of one instruction
  one_leads : (p : Placed) (b : Block) (e : Env) (s : State) → Stands b e s → IsStateOf exe s → s.stop ≡ Running → p.at ≡ s.eip → found_at exe s.eip ≡ There p.inst p.size → IsTrue (valid_of p.inst) → IsLifted (kind_of p.inst) → IsWellDefined s → Leads b (lifted p.inst p.at p.size b) e (step s 0)
  one_leads p b e s g h r a f v k w =
      let next = next_of s p.inst p.size h r f k w in
      let acts : perform (meaning p.inst p.size s.cpu.regs p.at s.cpu.df) 0 s.cpu e.mem ≡ Next next.cpu next.mem next.to =
      ap (λ (m : List Region). perform (meaning p.inst p.size s.cpu.regs p.at s.cpu.df) 0 s.cpu m) g.memory
      ∙ ap (λ (x : ℕ). perform (meaning p.inst p.size s.cpu.regs x s.cpu.df) 0 s.cpu s.regions) a ∙ next.acts in
      let holds : HoldBytes e.mem = subst HoldBytes (sym g.memory) h.sound.bytes in
      let reached : Reaches b (lifted p.inst p.at p.size b) e p.at next.cpu next.mem next.to =
      mean p.inst p.at p.size b v k g.whole e s.cpu next.cpu next.mem next.to h.sound.regs holds g.agrees g.bits (marked s p.inst p.size h r f w) acts in
      let c = lifted p.inst p.at p.size b in
      let there : Stands c (fold (numbered (length b.lines) reached.new) e) (record s { eip = next_eip next.to s.eip; cpu = next.cpu; regions = next.mem }) = record {
        whole = stays p.inst p.at p.size b g.whole;
        agrees = reached.agrees;
        bits = reached.bits;
        memory = reached.memory;
        exit = reached.exit ∙ ap (λ (x : ℕ). next_eip next.to x) a;
      } in
      record { new = reached.new; lines = reached.lines; allowed = reached.allowed; stands = subst (Stands c (fold (numbered (length b.lines) reached.new) e)) (sym next.state) there }

  joined : (b c d : Block) (e : Env) (t : State) (x : List Line) → c.lines ≡ b.lines ++ x → AllAllowed (numbered (length b.lines) x) e → Leads c d (fold (numbered (length b.lines) x) e) t → Leads b d e t
  joined b c d e t x q h g =
      let n : length c.lines ≡ length b.lines + length x = ap (λ (ls : List Line). length ls) q ∙ length-append b.lines x in
      record {
        new = x ++ g.new;
        lines = g.lines ∙ ap (λ (ls : List Line). ls ++ g.new) q ∙ append_assoc b.lines x g.new;
        allowed = allowed_behind x g.new (length b.lines) (length c.lines) e n h g.allowed;
        stands = subst (λ (f : Env). Stands d f t) (sym (fold_behind x g.new (length b.lines) (length c.lines) e n)) g.stands;
      }

  valid_here : (s : State) (i : Inst) (n : ℕ) → IsStateOf exe s → found_at exe s.eip ≡ There i n → IsTrue (valid_of i)
  valid_here s i n h f = by_bytes (bytes_at Runs s.eip 1 s.regions) refl (found_here s i n h f)
    where
      by_bytes : (o : Option (List ℕ)) → bytes_at Runs s.eip 1 s.regions ≡ o → found_in o ≡ There i n → IsTrue (valid_of i)
      by_bytes None q e = cc
      by_bytes (Some bs) q e = valid_in bs i n (decode_of bs) (bytes_there s.eip 1 s.regions bs h.sound.bytes q) refl e

  -- the next of some plain instructions
  plain_on : (p : Placed) (s : State) → IsStateOf exe s → s.stop ≡ Running → p.at ≡ s.eip → found_at exe s.eip ≡ There p.inst p.size → kind_of p.inst ≡ kinds.Plain → IsWellDefined s → Comes exe s (step s 0) × ((step s 0).eip ≡ s.eip + p.size)
  plain_on p s h r a f k w =
      let went = through exe (p ∷ []) s guest h r (a, f, tt) (k, tt) (w, tt) in
      (went.0, went.1 ∙ ap (λ (n : ℕ). s.eip + n) (sum_by-cons (λ (q : Placed). q.size) p [] ∙ omega arith))

  all_lead : (is : List Placed) (b : Block) (e : Env) (s : State) → Stands b e s → IsStateOf exe s → s.stop ≡ Running → StandFrom exe s.eip is → AreAlmostPlain is → WellDefined (length is) s → Leads b (lifted_all is b) e (run (length is) s [])
  all_lead [] b e s g h r st k w = record { new = []; lines = sym (append-nil b.lines); allowed = tt; stands = g }
  all_lead (p ∷ []) b e s g h r st k w =
      one_leads p b e s g h r st.0 st.1 (valid_here s p.inst p.size h st.1) (lifted_kind (kind_of p.inst) k) w.0
  all_lead (p ∷ q ∷ qs) b e s g h r st k w =
      let first = one_leads p b e s g h r st.0 st.1 (valid_here s p.inst p.size h st.1) (lifted_kind (kind_of p.inst) (other_kind (kind_of p.inst) kinds.Plain k.0 (λ x. cc))) w.0 in
      let on = plain_on p s h r st.0 st.1 k.0 w.0 in
      let c = lifted p.inst p.at p.size b in
      let rest = all_lead (q ∷ qs) c (fold (numbered (length b.lines) first.new) e) (step s 0) first.stands on.0.of on.0.running (subst (λ (at : ℕ). StandFrom exe at (q ∷ qs)) (sym on.1) st.2) k.1 w.1 in
      joined b c (lifted_all (q ∷ qs) c) e (run (length (q ∷ qs)) (step s 0) []) first.new first.lines first.allowed rest

  -- from the parameters to the end of the block
  given : (b : Block) (start : ℕ) (p : ℕ → ℕ) (m : List Region) (t : State) → Leads (blank start) b (start_env p m) t → Gives b p m t
  given b start p m t g =
      let q : b.lines ≡ g.new = g.lines in
      let whole : end_env b p m ≡ fold (numbered 0 g.new) (start_env p m) = ap (λ (ls : List Line). fold (numbered 0 ls) (start_env p m)) q in
      record {
        allowed = subst (λ (ls : List Line). AllAllowed (numbered 0 ls) (start_env p m)) (sym q) g.allowed;
        agrees = subst (λ (f : Env). AgreesOn every t.cpu (outs_of b.outs f)) (sym whole) g.stands.agrees;
        bits = subst (λ (f : Env). AreBits (outs_of b.outs f)) (sym whole) g.stands.bits;
        memory = ap (λ (f : Env). f.mem) whole ∙ g.stands.memory;
        exit = ap (λ (f : Env). exit_of b.exit f) whole ∙ g.stands.exit;
      }

  lifted_gives : (b : Block) (p : ℕ → ℕ) (m : List Region) (t : State) (c : Block) → c ≡ b → Gives c p m t → Gives b p m t
  lifted_gives b p m t c q g = subst (λ (x : Block). Gives x p m t) q g

  pub block_gives : EachHasOneBlock → (s : State) (p : ℕ → ℕ) → IsStateOf exe s → s.stop ≡ Running → (block_of exe s.eip).end ≢ Island → AgreesOn every s.cpu p → AreBits p → WellDefined (length (block_of exe s.eip).insts) s → Gives (lift_of exe s.eip) p s.regions (run (length (block_of exe s.eip).insts) s [])
  unfolding lift_of
  block_gives one s p h r n a z w =
      let b = block_of exe s.eip in
      let is = b.insts in
      let here : IsBlock exe s.eip b = (one exe s.eip b).1 refl in
      let begins : Stands (blank s.eip) (start_env p s.regions) s = record { whole = refl; agrees = params_agree s.cpu p s.regions a; bits = params_bits p s.regions z; memory = refl; exit = refl } in
      let led = all_lead is (blank s.eip) (start_env p s.regions) s begins h r here.stand (almost_plain exe (s.eip + size_of is) is b.end n here.ends) w in
      lifted_gives (lifted_to b.end is s.eip) p s.regions (run (length is) s []) (lifted_all is (blank s.eip)) (lifted_plain b.end is s.eip n)
      (given (lifted_all is (blank s.eip)) s.eip p s.regions (run (length is) s []) led)

  -- ---- what is seen of a block
  quiet_step : (i : Inst) (n : ℕ) (s : State) → Nexts i n s → IsQuiet s (step s 0)
  quiet_step i n s x = record { seen = ap observed x.state; brk = ap (λ (t : State). t.brk) x.state }

  quiet_on : (s t u : State) → IsQuiet s t → IsQuiet t u → IsQuiet s u
  quiet_on s t u a b = record { seen = b.seen ∙ a.seen; brk = b.brk ∙ a.brk }

  all_quiet : (is : List Placed) (s : State) (j : ℕ) → j ≤ length is → StandFrom exe s.eip is → AreAlmostPlain is → IsStateOf exe s → s.stop ≡ Running → WellDefined j s → IsQuiet s (run j s [])
  all_quiet is s zero l st k h r w = record { seen = refl; brk = refl }
  all_quiet [] s (suc j) l st k h r w = absurd (omega arith)
  all_quiet (p ∷ []) s (suc zero) l st k h r w =
      quiet_step p.inst p.size s (next_of s p.inst p.size h r st.1 (lifted_kind (kind_of p.inst) k) w.0)
  all_quiet (p ∷ []) s (suc (suc j)) l st k h r w = absurd (omega arith)
  all_quiet (p ∷ q ∷ qs) s (suc j) l st k h r w =
      let on = plain_on p s h r st.0 st.1 k.0 w.0 in
      quiet_on s (step s 0) (run j (step s 0) []) on.0.quiet
      (all_quiet (q ∷ qs) (step s 0) j (omega arith) (subst (λ (at : ℕ). StandFrom exe at (q ∷ qs)) (sym on.1) st.2) k.1 on.0.of on.0.running w.1)

  pub block_quiet : EachHasOneBlock → (s : State) (j : ℕ) → IsStateOf exe s → s.stop ≡ Running → (block_of exe s.eip).end ≢ Island → j ≤ length (block_of exe s.eip).insts → WellDefined j s → IsQuiet s (run j s [])
  block_quiet one s j h r n l w =
      let b = block_of exe s.eip in
      let here : IsBlock exe s.eip b = (one exe s.eip b).1 refl in
      all_quiet b.insts s j l here.stand (almost_plain exe (s.eip + size_of b.insts) b.insts b.end n here.ends) h r w
