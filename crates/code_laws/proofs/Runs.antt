-- Runs over instructions that stand in the code.
use Rattle.std.proofs.Common.{◌≡◌, ℕ, zero, suc, ◌+◌, ◌^◌, ◌<◌, ◌≤◌, true, false, List, [], ◌∷◌, ◌++◌, map, length, drop, refl, ap, ◌∙◌, subst, arith}
use Rattle.std.specs.Prelude.{if◌then◌else◌}
use Rattle.std.proofs.lemmas.Bool.{le-leb, and_from, and_parts}
use Rattle.br_word.specs.Memory.{Region, covers, bytes_at}
use Rattle.br_word.specs.State.{State, Running}
use Rattle.ia_inst.specs.declared.inst.Inst.{Inst}
use Rattle.ia_inst.specs.declared.inst.Inst.TheVariants.{Jcc, Jmp}
use Rattle.ia_inst.specs.Canonical.{canonical}
use Rattle.ia_inst.specs.Act.{perform, Past, To}
use Rattle.ia_inst.specs.Meaning.{meaning, wrap}
use Rattle.ia_inst.specs.Step.{There, found, next_eip, result_of, settled, step}
use Rattle.run_model.specs.Run.{Observation, first_choice, run}
use Rattle.code_laws.specs.Seen.{Cells, IsCode, Sees, Leads, Quiet}
use Rattle.ia_encode.specs.Items.{Reads, StandsAt, distance}
use Rattle.code_laws.proofs.Ops.{Op, OMov, OAlu, OCmp, OAdd8, OTest, OTest8, OImul, OShift, OSext, OSetcc, OCmov, OCld, OStd, OSahf, inst, act, acts, AllFit, is_quiet, are_quiet}
use Rattle.code_laws.proofs.Follows.{follows}

-- the two parts of a list of instructions
pub stands_front : (code : Region) (at : ℕ) (is js : List Inst) (to : ℕ) → StandsAt code at (is ++ js) to → (mid : ℕ) × StandsAt code at is mid × StandsAt code mid js to
stands_front code at [] js to h = (at, refl, h)
stands_front code at (i ∷ is) js to h =
    let r = stands_front code (at + length (canonical i)) is js to h.1 in
    (r.0, (h.0, r.1), r.2)

pub leads_none : (W P : State → Type 0) (s : State) (cs : List ℕ) → P s → Leads W P 0 s cs
unfolding Leads
leads_none W P s cs p = p

pub leads_then : (W P Q : State → Type 0) (m n : ℕ) (s : State) (cs : List ℕ) → Leads W P m s cs → ((t : State) (ds : List ℕ) → P t → Leads W Q n t ds) → Leads W Q (m + n) s cs
unfolding Leads
leads_then W P Q zero n s cs l next = let e : n ≡ zero + n = omega arith in subst (λ k. Leads W Q k s cs) e (next s cs l)
leads_then W P Q (suc m) n s cs l next =
    let e : suc (m + n) ≡ suc m + n = omega arith in
    let r : Leads W Q (suc (m + n)) s cs = (l.0, leads_then W P Q m n (step s (first_choice cs)) (drop 1 cs) l.1 next) in
    subst (λ k. Leads W Q k s cs) e r

pub leads_map : (V W P Q : State → Type 0) (n : ℕ) (s : State) (cs : List ℕ) → ((t : State) → V t → W t) → ((t : State) → P t → Q t) → Leads V P n s cs → Leads W Q n s cs
unfolding Leads
leads_map V W P Q zero s cs f g l = g s l
leads_map V W P Q (suc n) s cs f g l = (f s l.0, leads_map V W P Q n (step s (first_choice cs)) (drop 1 cs) f g l.1)

pub leads_step : (W P : State → Type 0) (n : ℕ) (s : State) (cs : List ℕ) → W s → Leads W P n (step s (first_choice cs)) (drop 1 cs) → Leads W P (suc n) s cs
unfolding Leads
leads_step W P n s cs w l = (w, l)

pub run_leads : (W : State → Type 0) (n : ℕ) (s : State) (cs : List ℕ) → ((i : ℕ) → i < n → W (run i s cs)) → Leads W (λ t. t ≡ run n s cs) n s cs
unfolding Leads
run_leads W zero s cs h = refl
run_leads W (suc n) s cs h = (h 0 (omega arith), run_leads W n (step s (first_choice cs)) (drop 1 cs) (λ i l. h (suc i) (omega arith)))

-- in the words of runs
pub leads_run : (W P : State → Type 0) (n : ℕ) (s : State) (cs : List ℕ) → Leads W P n s cs → P (run n s cs) × ((i : ℕ) → i < n → W (run i s cs))
unfolding Leads
leads_run W P zero s cs l = (l, λ i h. absurd (omega arith))
leads_run W P (suc n) s cs l =
    let r = leads_run W P n (step s (first_choice cs)) (drop 1 cs) l.1 in
    (r.0, before r.1)
  where
    before : ((i : ℕ) → i < n → W (run i (step s (first_choice cs)) (drop 1 cs))) → (i : ℕ) → i < suc n → W (run i s cs)
    before h zero b = l.0
    before h (suc i) b = h i (omega arith)

-- what shows is the same
pub leads_as : (v w : Observation) (P Q : State → Type 0) (n : ℕ) (s : State) (cs : List ℕ) → v ≡ w → ((t : State) → P t → Q t) → Leads (Quiet v) P n s cs → Leads (Quiet w) Q n s cs
leads_as v w P Q n s cs e g l =
    leads_map (Quiet v) (Quiet w) P Q n s cs (λ t q. record { shows = q.shows ∙ e; live = q.live; in_code = q.in_code }) g l

-- a state at another address
pub at_seen : {code : Region} (s : State) (a : Cells) (at : ℕ) → Sees code s a → Sees code (record s { eip = at }) a
at_seen s a at h = record { own = h.own; regions = h.regions; slots = h.slots; regs = h.regs; small = h.small; flags = h.flags; marks = h.marks; df = h.df; seen = h.seen; brk_start = h.brk_start; brk = h.brk; running = h.running }

-- one step at an instruction
pub found_is : {code : Region} → IsCode code → (s : State) (a : Cells) → Sees code s a → (i : Inst) (n : ℕ) → Reads code s.eip i n → found s.eip s.regions ≡ There i n
unfolding bytes_at
found_is {code = code} here s a h i n r =
    let f = r.from in
    let l = r.starts in
    let c : covers code s.eip 1 ≡ true = and_from _ _ (le-leb code.start s.eip (omega arith)) (le-leb (s.eip + 1) (code.start + length code.bytes) (omega arith)) in
    ap (found s.eip) h.regions ∙ rw (c, here.runs, r.spelled)

pub step_is : (s : State) (i : Inst) (n x : ℕ) → s.stop ≡ Running → found s.eip s.regions ≡ There i n → step s x ≡ settled (result_of (perform (meaning i n s.cpu.regs s.eip s.cpu.df) x s.cpu s.regions) s) s
unfolding step
step_is s i n x live f = rw (live, f)

pub quiet_here : {code : Region} → IsCode code → (s : State) (a : Cells) → Sees code s a → (i : Inst) (n : ℕ) → Reads code s.eip i n → Quiet a.seen s
quiet_here here s a h i n r = let b = here.below in let l = r.starts in record { shows = h.seen; live = h.running; in_code = omega arith }

-- one step, and what comes after it
pub step_then : {code : Region} → IsCode code → (s : State) (a : Cells) (i : Inst) (n k : ℕ) (cs : List ℕ) (P : State → Type 0) (t : State) → Sees code s a → Reads code s.eip i n → settled (result_of (perform (meaning i n s.cpu.regs s.eip s.cpu.df) (first_choice cs) s.cpu s.regions) s) s ≡ t → Leads (Quiet a.seen) P k t (drop 1 cs) → Leads (Quiet a.seen) P (suc k) s cs
unfolding Leads
step_then here s a i n k cs P t h r e l = (quiet_here here s a h i n r, rw (step_is s i n (first_choice cs) h.running (found_is here s a h i n r) ∙ e) l)

pub act_seen : (o : Op) (a : Cells) (x : ℕ) → (act o a x).seen ≡ a.seen
act_seen (OMov p v) a x = refl
act_seen (OAlu op v) a x = refl
act_seen (OCmp v) a x = refl
act_seen (OAdd8 n) a x = refl
act_seen OTest a x = refl
act_seen OTest8 a x = refl
act_seen OImul a x = refl
act_seen (OShift op r n) a x = refl
act_seen (OSext w) a x = refl
act_seen (OSetcc cond p) a x = refl
act_seen OCmov a x = refl
act_seen OCld a x = refl
act_seen OStd a x = refl
act_seen OSahf a x = refl

-- what a run over operations leads to
pub record Done (code : Region) (os : List Op) (s : State) (a : Cells) (to : ℕ) (t : State) : Type 0 where
  pub choices : List ℕ
  pub sees : Sees code t (acts os a choices)
  pub eip : t.eip ≡ to
  pub same : are_quiet os ≡ true → t.regions ≡ s.regions

pub runs : {code : Region} → IsCode code → (os : List Op) (s : State) (a : Cells) (to : ℕ) (cs : List ℕ) → Sees code s a → AllFit os → StandsAt code s.eip (map inst os) to → Leads (Quiet a.seen) (Done code os s a to) (length os) s cs
runs here [] s a to cs h fit st = leads_none _ _ s cs (record { choices = cs; sees = h; eip = st; same = λ q. refl })
runs {code = code} here (o ∷ os) s a to cs h fit st =
    let n = length (canonical (inst o)) in
    let x = first_choice cs in
    let w = follows here o s a n x h fit.0 in
    let b = here.below in
    let l = st.0.ends in
    let e : wrap (s.eip + n) ≡ s.eip + n = omega arith in
    let t = record s { eip = s.eip + n; cpu = w.cpu; regions = w.regions } in
    step_then here s a (inst o) n (length os) cs (Done code (o ∷ os) s a to) t h st.0
    (ap (λ d. settled (result_of d s) s) w.goes ∙ ap (λ p. record s { eip = p; cpu = w.cpu; regions = w.regions }) e)
    (leads_as (act o a x).seen a.seen (Done code os t (act o a x) to) (Done code (o ∷ os) s a to) (length os) t (drop 1 cs) (act_seen o a x)
    (λ u d. record { choices = x ∷ d.choices; sees = d.sees; eip = d.eip; same = λ q. let p = and_parts (is_quiet o) (are_quiet os) q in d.same p.1 ∙ w.same p.0 })
    (runs here os t (act o a x) to (drop 1 cs) (w.sees (s.eip + n)) fit.1 st.1))

-- a jump comes where its distance leads
pub lands : (end to : ℕ) → end ≤ 2 ^ 32 → to < 2 ^ 32 → wrap (end + distance end to) ≡ to
lands end to e l = omega arith

pub jmp_then : {code : Region} → IsCode code → (s : State) (a : Cells) (to k : ℕ) (cs : List ℕ) (P : State → Type 0) → Sees code s a → to < 2 ^ 32 → Reads code s.eip (Jmp (distance (s.eip + 5) to)) 5 → Leads (Quiet a.seen) P k (record s { eip = to }) (drop 1 cs) → Leads (Quiet a.seen) P (suc k) s cs
unfolding meaning
jmp_then here s a to k cs P h f r l =
    let b = here.below in
    let e = r.ends in
    step_then here s a (Jmp (distance (s.eip + 5) to)) 5 k cs P (record s { eip = to }) h r (ap (λ p. record s { eip = p }) (lands (s.eip + 5) to (omega arith) f)) l

-- JZ, by ZF
pub jz_taken : {code : Region} → IsCode code → (s : State) (a : Cells) (to k : ℕ) (cs : List ℕ) (P : State → Type 0) → Sees code s a → to < 2 ^ 32 → Reads code s.eip (Jcc 4 (distance (s.eip + 6) to)) 6 → a.flags.zf ≡ true → Leads (Quiet a.seen) P k (record s { eip = to }) (drop 1 cs) → Leads (Quiet a.seen) P (suc k) s cs
unfolding meaning
jz_taken here s a to k cs P h f r z l =
    let b = here.below in
    let e = r.ends in
    let z' : s.cpu.flags.zf ≡ true = ap (λ g. g.zf) h.flags ∙ z in
    step_then here s a (Jcc 4 (distance (s.eip + 6) to)) 6 k cs P (record s { eip = to }) h r (ap (λ z. record s { eip = next_eip (if z then To (wrap (s.eip + 6 + distance (s.eip + 6) to)) else Past 6) s.eip }) z' ∙ ap (λ p. record s { eip = p }) (lands (s.eip + 6) to (omega arith) f)) l

pub jz_past : {code : Region} → IsCode code → (s : State) (a : Cells) (to k : ℕ) (cs : List ℕ) (P : State → Type 0) → Sees code s a → Reads code s.eip (Jcc 4 (distance (s.eip + 6) to)) 6 → a.flags.zf ≡ false → Leads (Quiet a.seen) P k (record s { eip = s.eip + 6 }) (drop 1 cs) → Leads (Quiet a.seen) P (suc k) s cs
unfolding meaning
jz_past here s a to k cs P h r z l =
    let b = here.below in
    let e = r.ends in
    let z' : s.cpu.flags.zf ≡ false = ap (λ g. g.zf) h.flags ∙ z in
    let p : wrap (s.eip + 6) ≡ s.eip + 6 = omega arith in
    step_then here s a (Jcc 4 (distance (s.eip + 6) to)) 6 k cs P (record s { eip = s.eip + 6 }) h r (ap (λ z. record s { eip = next_eip (if z then To (wrap (s.eip + 6 + distance (s.eip + 6) to)) else Past 6) s.eip }) z' ∙ ap (λ p. record s { eip = p }) p) l
