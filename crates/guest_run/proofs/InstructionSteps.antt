-- An instruction as a step.
use Rattle.std.proofs.Common.{◌≡◌, ℕ, ◌+◌, Bool, true, false, List, [], Option, Some, None, Result, Ok, refl, sym, ◌∙◌, ap, subst, arith, IsTrue}
use Rattle.br_word.specs.declared.types.GuestFault.{GuestFault}
use Rattle.br_word.specs.declared.types.GuestFault.TheVariants.{Access, Illegal, Divide}
use Rattle.br_word.specs.Words.{bit}
use Rattle.br_word.specs.State as state
use Rattle.br_word.specs.State.{State, RunState, Running, Exited, Faulted, Flag}
use Rattle.ia_inst.specs.declared.inst.Inst.{Inst}
use Rattle.ia_inst.specs.declared.inst.Inst.TheVariants as inst
use Rattle.ia_inst.specs.Canonical.{valid_of}
use Rattle.guest_run.specs.declared.advance.Code.TheVariants as code
use Rattle.ia_inst.specs.Act.{Completion, Next, Denied, Divided, Called, perform}
use Rattle.ia_inst.specs.Meaning.{meaning}
use Rattle.ia_inst.specs.Kinds.{flags_read}
use Rattle.ia_inst.specs.System.{StepResult, On, Bad}
use Rattle.ia_inst.specs.Step.{Found, NoCode, NoInst, There, result_of, next_eip, settled, asked_at, some_unmarked}
use Rattle.ia_inst.proofs.Asked.{asked_is_read}
use Rattle.guest_mem.specs.View.{MemoryView}
use Rattle.ia_meaning.specs.declared.cpu.Cpu.{Cpu}
use Rattle.ia_meaning.specs.declared.cpu.Outcome.TheVariants as outcome
use Rattle.ia_meaning.specs.Effect.{view, Comes}
use Rattle.guest_sys.specs.declared.answers.SysError.{SysError}
use Rattle.br_outside.specs.Streams.{Streams, Tells}
use Rattle.guest_sys.specs.Machine.{Machine, state_of, fed}
use Rattle.guest_sys.specs.Calls.{Passes}
use Rattle.guest_run.proofs.StreamsJoined.{had, told_had, same_passes}
use Rattle.guest_run.specs.declared.stop.Stop.TheVariants as answers
use Rattle.guest_run.specs.declared.advance.Advanced.{Advanced}
use Rattle.run_model.specs.Edges.{Edge, edge_by, is_transfer}
use Rattle.guest_run.specs.Guest.{first_edge, is_trap}
use Rattle.guest_run.specs.Advance.{Expected, Advances, AdvanceGives, Advance, Trap, of_call, IsFound, edge_if}
use Rattle.guest_run.proofs.NoCall.{called_traps}

-- the expectation of an instruction that goes this way
abbrev pub of_inst : Inst → ℕ → State → StepResult → Expected
of_inst i n s w = record {
  after = settled w s;
  edge = first_edge (edge_by (is_transfer i) w s.eip);
  undefined = bit (some_unmarked (asked_at (There i n) s) s.cpu.marks);
  trap = is_trap i;
}

undefined_is : (i : Inst) (n : ℕ) (left : List ℕ) (u : Cpu) (m : MemoryView) → bit (some_unmarked (flags_read i) u.known) ≡ bit (some_unmarked (asked_at (There i n) (fed left (state_of u m))) u.known)
undefined_is i n left u m = ap (λ fs. bit (some_unmarked fs u.known)) (sym (asked_is_read i n u.regs u.eip u.df u.flags m.regions))

-- the state of a processor and a memory that are known by their parts
abbrev joined : state.Processor → ℕ → MemoryView → State
joined c eip m = record { eip = eip; cpu = c; regions = m.regions; brk_start = m.brk_start; brk = m.brk; input = []; out = []; err = []; stop = Running }

joined_is : (v : Cpu) (n : MemoryView) (c : state.Processor) (eip : ℕ) (m : MemoryView) → view v ≡ c → v.eip ≡ eip → n ≡ m → state_of v n ≡ joined c eip m
joined_is v n c eip m a b d = ap (λ x. joined x v.eip n) a ∙ (ap (λ y. joined c y n) b ∙ ap (λ z. joined c eip z) d)

edge_on : (b : Bool) (at to : ℕ) (t : State) → to ≡ t.eip → edge_if b at to ≡ first_edge (edge_by b (On t) at)
edge_on true at to t e = ap (λ x. Some (at, x)) e
edge_on false at to t e = refl

edge_bad : (b : Bool) (at : ℕ) (f : GuestFault) → None ≡ first_edge (edge_by b (Bad f) at)
edge_bad true at f = refl
edge_bad false at f = refl

-- what an instruction that goes on comes to
next_at : (i : Inst) (k c : ℕ) (left : List ℕ) (u v : Cpu) (m n : MemoryView) (b : Streams) (e : Completion) → Tells left b.input → Comes e outcome.Next u m v n → v.undefined ≡ u.undefined + bit (some_unmarked (flags_read i) u.known)
    → Advances (fed left (state_of u m)) (of_inst i k (fed left (state_of u m)) (result_of e (fed left (state_of u m)))) (record { stop = answers.Budget; edge = edge_if (is_transfer i) u.eip v.eip }) (record { cpu = u; memory = m; streams = b }) (record { cpu = v; memory = n; streams = b })
next_at i k c left u v m n b (Next w rs to) told h un = record {
  stop = refl;
  edge = edge_on (is_transfer i) u.eip v.eip (record (fed left (state_of u m)) { eip = next_eip to u.eip; cpu = w; regions = rs }) h.1;
  state = joined_is v n w (next_eip to u.eip) (record m { regions = rs }) h.0 h.1 h.2;
  undefined = un ∙ ap (λ d. u.undefined + d) (undefined_is i k left u m);
  more = 0;
  few = omega arith;
  streams = same_passes _ b told refl refl;
  idle = λ _. refl;
}
next_at i k c left u v m n b (Denied at) told h un = absurd h
next_at i k c left u v m n b Divided told h un = absurd h
next_at i k c left u v m n b (Called x) told h un = absurd h

fault_at : (i : Inst) (k c : ℕ) (left : List ℕ) (u v : Cpu) (m n : MemoryView) (b : Streams) (f : GuestFault) (e : Completion) → Tells left b.input → Comes e (outcome.Fault f) u m v n → v.undefined ≡ u.undefined + bit (some_unmarked (flags_read i) u.known)
    → Advances (fed left (state_of u m)) (of_inst i k (fed left (state_of u m)) (result_of e (fed left (state_of u m)))) (record { stop = answers.Fault f; edge = None }) (record { cpu = u; memory = m; streams = b }) (record { cpu = v; memory = n; streams = b })
fault_at i k c left u v m n b f (Next w rs to) told h un = absurd h
fault_at i k c left u v m n b f (Called x) told h un = absurd h
fault_at i k c left u v m n b f (Denied at) told h un = record {
  stop = ap answers.Fault h.0;
  edge = edge_bad (is_transfer i) u.eip (Access at);
  state = joined_is v n (view u) u.eip m h.1 h.2 h.3;
  undefined = un ∙ ap (λ d. u.undefined + d) (undefined_is i k left u m);
  more = 0;
  few = omega arith;
  streams = same_passes _ b told refl refl;
  idle = λ _. refl;
}
fault_at i k c left u v m n b f Divided told h un = record {
  stop = ap answers.Fault h.0;
  edge = edge_bad (is_transfer i) u.eip (Divide u.eip);
  state = joined_is v n (view u) u.eip m h.1 h.2 h.3;
  undefined = un ∙ ap (λ d. u.undefined + d) (undefined_is i k left u m);
  more = 0;
  few = omega arith;
  streams = same_passes _ b told refl refl;
  idle = λ _. refl;
}

pub carries_on : (i : Inst) (k c : ℕ) (u v : Cpu) (m n : MemoryView) (b : Streams) → Comes (perform (meaning i k u.regs u.eip u.df) c (view u) m.regions) outcome.Next u m v n → v.undefined ≡ u.undefined + bit (some_unmarked (flags_read i) u.known)
    → Advance (There i k) (Ok (record { stop = answers.Budget; edge = edge_if (is_transfer i) u.eip v.eip })) c (record { cpu = u; memory = m; streams = b }) (record { cpu = v; memory = n; streams = b })
carries_on i k c u v m n b h un = record {
  left = had b.input.bytes;
  told = told_had b.input.bytes;
  gives = next_at i k c (had b.input.bytes) u v m n b (perform (meaning i k u.regs u.eip u.df) c (view u) m.regions) (told_had b.input.bytes) h un;
}

pub faults_at : (i : Inst) (k c : ℕ) (u v : Cpu) (m n : MemoryView) (b : Streams) (f : GuestFault) → Comes (perform (meaning i k u.regs u.eip u.df) c (view u) m.regions) (outcome.Fault f) u m v n → v.undefined ≡ u.undefined + bit (some_unmarked (flags_read i) u.known)
    → Advance (There i k) (Ok (record { stop = answers.Fault f; edge = None })) c (record { cpu = u; memory = m; streams = b }) (record { cpu = v; memory = n; streams = b })
faults_at i k c u v m n b f h un = record {
  left = had b.input.bytes;
  told = told_had b.input.bytes;
  gives = fault_at i k c (had b.input.bytes) u v m n b f (perform (meaning i k u.regs u.eip u.df) c (view u) m.regions) (told_had b.input.bytes) h un;
}

pub no_code : (c : ℕ) (u : Cpu) (m : MemoryView) (b : Streams) → Advance NoCode (Ok (record { stop = answers.Fault (Access u.eip); edge = None })) c (record { cpu = u; memory = m; streams = b }) (record { cpu = u; memory = m; streams = b })
no_code c u m b = record {
  left = had b.input.bytes;
  told = told_had b.input.bytes;
  gives = record {
    stop = refl;
    edge = refl;
    state = refl;
    undefined = omega arith;
    more = 0;
    few = omega arith;
    streams = same_passes _ b (told_had b.input.bytes) refl refl;
    idle = λ _. refl;
  };
}

pub no_inst : (c : ℕ) (u : Cpu) (m : MemoryView) (b : Streams) → Advance NoInst (Ok (record { stop = answers.Fault (Illegal u.eip); edge = None })) c (record { cpu = u; memory = m; streams = b }) (record { cpu = u; memory = m; streams = b })
no_inst c u m b = record {
  left = had b.input.bytes;
  told = told_had b.input.bytes;
  gives = record {
    stop = refl;
    edge = refl;
    state = refl;
    undefined = omega arith;
    more = 0;
    few = omega arith;
    streams = same_passes _ b (told_had b.input.bytes) refl refl;
    idle = λ _. refl;
  };
}

-- ---- a system call

trap_is : (i : Inst) → is_trap i ≡ true → i ≡ inst.Int80
trap_is inst.Int80 e = refl
trap_is i e = absurd (cc)

comes_called : (e : Completion) (u v : Cpu) (m n : MemoryView) → Comes e outcome.Trap u m v n → (k : ℕ) × (e ≡ Called k)
comes_called (Next w rs to) u v m n h = absurd h
comes_called (Denied at) u v m n h = absurd h
comes_called Divided u v m n h = absurd h
comes_called (Called k) u v m n h = (k, refl)

cpu_is : (v u : Cpu) → view v ≡ view u → v.undefined ≡ u.undefined → (let w : Cpu = record v { eip = u.eip } in w) ≡ u
cpu_is v u a b =
    let f : state.Processor → ℕ → Cpu = λ c n. record { regs = c.regs; eip = u.eip; flags = c.flags; df = c.df; known = c.marks; undefined = n } in
    ap (λ c. f c v.undefined) a ∙ ap (λ n. f (view u) n) b

int80_carries : (k c : ℕ) (u v : Cpu) (m n : MemoryView) (b : Streams) (r : Result Advanced SysError) (new : Machine)
    → Comes (perform (meaning inst.Int80 k u.regs u.eip u.df) c (view u) m.regions) outcome.Trap u m v n → v.undefined ≡ u.undefined + bit (some_unmarked (flags_read inst.Int80) u.known)
    → Trap u.eip r (record { cpu = v; memory = n; streams = b }) new → Advance (There inst.Int80 k) r c (record { cpu = u; memory = m; streams = b }) new
unfolding meaning
int80_carries k c u v m n b r new h un t =
    let P : Cpu → Type 0 = λ x. AdvanceGives r (fed t.left (state_of x n)) (of_call v.eip (fed t.left (state_of x n))) (record { cpu = x; memory = n; streams = b }) new in
    let Q : MemoryView → Type 0 = λ n. AdvanceGives r (fed t.left (state_of u n)) (of_call v.eip (fed t.left (state_of u n))) (record { cpu = u; memory = n; streams = b }) new in
    let R : ℕ → Type 0 = λ next. AdvanceGives r (fed t.left (state_of u m)) (of_call next (fed t.left (state_of u m))) (record { cpu = u; memory = m; streams = b }) new in
    let same : v.undefined ≡ u.undefined = omega (arith, un) in
    record { left = t.left; told = t.told; gives = subst R h.1 (subst Q h.2 (subst P (cpu_is v u h.0 same) t.gives)) }

pub trap_carries : (i : Inst) (k c : ℕ) (u v : Cpu) (m n : MemoryView) (b : Streams) (r : Result Advanced SysError) (new : Machine)
    → Comes (perform (meaning i k u.regs u.eip u.df) c (view u) m.regions) outcome.Trap u m v n → v.undefined ≡ u.undefined + bit (some_unmarked (flags_read i) u.known)
    → Trap u.eip r (record { cpu = v; memory = n; streams = b }) new → Advance (There i k) r c (record { cpu = u; memory = m; streams = b }) new
trap_carries i k c u v m n b r new h un t =
    let called = comes_called (perform (meaning i k u.regs u.eip u.df) c (view u) m.regions) u v m n h in
    let same = trap_is i (called_traps i k u.regs u.eip u.df c (view u) m.regions called.0 called.1) in
    let P : Inst → Type 0 = λ i. Comes (perform (meaning i k u.regs u.eip u.df) c (view u) m.regions) outcome.Trap u m v n → v.undefined ≡ u.undefined + bit (some_unmarked (flags_read i) u.known) → Advance (There i k) r c (record { cpu = u; memory = m; streams = b }) new in
    subst P (sym same) (λ h un. int80_carries k c u v m n b r new h un t) h un

-- ---- what was found

pub missing : (f : Found) → IsFound f code.Missing → f ≡ NoCode
missing NoCode h = refl
missing NoInst h = absurd h
missing (There i n) h = absurd h

pub unreadable : (f : Found) → IsFound f code.Unreadable → f ≡ NoInst
unreadable NoCode h = absurd h
unreadable NoInst h = refl
unreadable (There i n) h = absurd h

pub there : (f : Found) (i : Inst) (n : ℕ) → IsFound f (code.Inst i n) → (There i n ≡ f) × IsTrue (valid_of i)
there NoCode i n h = absurd h
there NoInst i n h = absurd h
there (There j m) i n h =
    let P : Inst → Type 0 = λ i. IsTrue (valid_of i) in
    (ap (λ x. There x n) h.0 ∙ ap (λ x. There j x) h.1, subst P (sym h.0) h.2)

-- ---- the same by another name

pub ok_as : (f : Found) (c : ℕ) (old new : Machine) (a b : Advanced) → a ≡ b → Advance f (Ok b) c old new → Advance f (Ok a) c old new
ok_as f c old new a b e h = let P : Advanced → Type 0 = λ a. Advance f (Ok a) c old new in subst P (sym e) h

pub trap_as : (at : ℕ) (old new : Machine) (a b : Advanced) → a ≡ b → Trap at (Ok b) old new → Trap at (Ok a) old new
trap_as at old new a b e h = let P : Advanced → Type 0 = λ a. Trap at (Ok a) old new in subst P (sym e) h

pub found_as : (f g : Found) (r : Result Advanced SysError) (c : ℕ) (old new : Machine) → f ≡ g → Advance g r c old new → Advance f r c old new
found_as f g r c old new e h = let P : Found → Type 0 = λ f. Advance f r c old new in subst P (sym e) h

pub edged : (a b : Option Edge) → a ≡ b → (let x : Advanced = record { stop = answers.Budget; edge = a } in x) ≡ record { stop = answers.Budget; edge = b }
edged a b e = ap (λ d. let x : Advanced = record { stop = answers.Budget; edge = d } in x) e
