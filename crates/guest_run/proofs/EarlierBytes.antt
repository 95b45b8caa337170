-- What a guest does, does not depend on what it has written before.
use Rattle.std.proofs.Common.{◌≡◌, ℕ, zero, suc, ◌+◌, Bool, true, false, if◌then◌else◌, List, [], ◌++◌, Option, Some, None, refl, sym, ◌∙◌, ap, append_assoc, get_or, take, drop, length, map, nat_eq, nat_le, ◌&&◌, ◌-◌, ◌^◌}
use Rattle.std.proofs.lemmas.List.{append-nil}
use Rattle.br_word.specs.Words.{bit}
use Rattle.br_word.specs.State.{State, RunState, Running, Exited, Faulted}
use Rattle.ia_inst.specs.Act.{Completion, Next, Denied, Divided, Called, perform}
use Rattle.br_word.specs.Memory.{Region, resized}
use Rattle.ia_inst.specs.System.{StepResult, On, Bad, or_bad, answers, buffer, filled, call_exit, call_read, call_write, call_brk, system}
use Rattle.ia_inst.specs.Step.{Found, NoCode, NoInst, There, found, act_of, result_of, result_at, settled, unless_stopped, asked_at, step, some_unmarked}
use Rattle.guest_sys.specs.Calls.{spare}
use Rattle.guest_sys.specs.Machine.{fed, bare}
use Rattle.run_model.specs.Edges.{Edge, edge_by, edge_at, edge_of, is_transfer}
use Rattle.run_model.specs.Run.{run}
use Rattle.guest_run.specs.Guest.{first_edge, reads_undefined, traps, asks_by, ahead, while_running, steps_taken, undefined_taken, edge_after}

-- the state with these bytes written before
abbrev pub shown : List ℕ → List ℕ → State → State
shown w e s = record s { out = w ++ s.out; err = e ++ s.err }

abbrev pub way_shown : List ℕ → List ℕ → StepResult → StepResult
way_shown w e (On t) = On (shown w e t)
way_shown w e (Bad f) = Bad f

read_shown : (w e : List ℕ) (s : State) (next at : ℕ) (new : List ℕ) (b : Bool) (o : Option (List Region))
    → (if b then or_bad at o (λ rs. On (record (answers (length new) next (shown w e s)) { regions = rs; input = drop (length new) s.input })) else On (answers (2 ^ 32 - 9) next (shown w e s)))
    ≡ way_shown w e (if b then or_bad at o (λ rs. On (record (answers (length new) next s) { regions = rs; input = drop (length new) s.input })) else On (answers (2 ^ 32 - 9) next s))
read_shown w e s next at new true None = refl
read_shown w e s next at new true (Some rs) = refl
read_shown w e s next at new false o = refl

write_shown : (w e : List ℕ) (s : State) (next at n : ℕ) (b c : Bool) (o : Option (List ℕ))
    → (if b then or_bad at o (λ bs. On (record (answers n next (shown w e s)) { out = (w ++ s.out) ++ bs }))
    else if c then or_bad at o (λ bs. On (record (answers n next (shown w e s)) { err = (e ++ s.err) ++ bs }))
    else On (answers (2 ^ 32 - 9) next (shown w e s)))
    ≡ way_shown w e (if b then or_bad at o (λ bs. On (record (answers n next s) { out = s.out ++ bs }))
    else if c then or_bad at o (λ bs. On (record (answers n next s) { err = s.err ++ bs }))
    else On (answers (2 ^ 32 - 9) next s))
write_shown w e s next at n true c None = refl
write_shown w e s next at n true c (Some bs) = ap (λ x. On (record (answers n next (shown w e s)) { out = x })) (append_assoc w s.out bs)
write_shown w e s next at n false true None = refl
write_shown w e s next at n false true (Some bs) = ap (λ x. On (record (answers n next (shown w e s)) { err = x })) (append_assoc e s.err bs)
write_shown w e s next at n false false o = refl

brk_shown : (w e : List ℕ) (s : State) (next to : ℕ) (rs : List Region) (b : Bool)
    → (if b then On (record (answers to next (shown w e s)) { brk = to; regions = rs }) else On (answers s.brk next (shown w e s)))
    ≡ way_shown w e (if b then On (record (answers to next s) { brk = to; regions = rs }) else On (answers s.brk next s))
brk_shown w e s next to rs true = refl
brk_shown w e s next to rs false = refl

choose_shown : (w e : List ℕ) (p q r t : Bool) (a b c d f a' b' c' d' f' : StepResult)
    → a ≡ way_shown w e a' → b ≡ way_shown w e b' → c ≡ way_shown w e c' → d ≡ way_shown w e d' → f ≡ way_shown w e f'
    → (if p then a else if q then b else if r then c else if t then d else f) ≡ way_shown w e (if p then a' else if q then b' else if r then c' else if t then d' else f')
choose_shown w e true q r t a b c d f a' b' c' d' f' u v x y z = u
choose_shown w e false true r t a b c d f a' b' c' d' f' u v x y z = v
choose_shown w e false false true t a b c d f a' b' c' d' f' u v x y z = x
choose_shown w e false false false true a b c d f a' b' c' d' f' u v x y z = y
choose_shown w e false false false false a b c d f a' b' c' d' f' u v x y z = z

pub system_shown : (next : ℕ) (w e : List ℕ) (s : State) → system next (shown w e s) ≡ way_shown w e (system next s)
unfolding system
system_shown next w e s =
    let at = get_or s.cpu.regs 1 0 in
    let n = get_or s.cpu.regs 2 0 in
    let d = get_or s.cpu.regs 3 0 in
    let number = get_or s.cpu.regs 0 0 in
    choose_shown w e (nat_eq number 1) (nat_eq number 3) (nat_eq number 4) (nat_eq number 45)
    (call_exit next (shown w e s)) (call_read next (shown w e s)) (call_write next (shown w e s)) (call_brk next (shown w e s)) (On (answers (2 ^ 32 - 38) next (shown w e s)))
    (call_exit next s) (call_read next s) (call_write next s) (call_brk next s) (On (answers (2 ^ 32 - 38) next s))
    refl
    (read_shown w e s next at (take n s.input) (nat_eq d 0) (filled at (take n s.input) s.regions))
    (write_shown w e s next at n (nat_eq d 1) (nat_eq d 2) (buffer at n s.regions))
    (brk_shown w e s next d (map (resized s.brk_start (d - s.brk_start)) s.regions) (nat_le s.brk_start d && nat_le d (s.brk_start + 67108864)))
    refl

end_shown : (x : Completion) (w e : List ℕ) (s : State) → result_of x (shown w e s) ≡ way_shown w e (result_of x s)
end_shown (Next u rs to) w e s = refl
end_shown (Denied at) w e s = refl
end_shown Divided w e s = refl
end_shown (Called n) w e s = system_shown _ w e s

way_at_shown : (f : Found) (w e : List ℕ) (s : State) (c : ℕ) → result_at f (shown w e s) c ≡ way_shown w e (result_at f s c)
way_at_shown NoCode w e s c = refl
way_at_shown NoInst w e s c = refl
way_at_shown (There i n) w e s c = end_shown (perform (act_of i n s) c s.cpu s.regions) w e s

settled_shown : (x : StepResult) (w e : List ℕ) (s : State) → settled (way_shown w e x) (shown w e s) ≡ shown w e (settled x s)
settled_shown (On t) w e s = refl
settled_shown (Bad f) w e s = refl

unless_shown : (x : RunState) (w e : List ℕ) (s t : State) → unless_stopped x (shown w e s) (shown w e t) ≡ shown w e (unless_stopped x s t)
unless_shown Running w e s t = refl
unless_shown (Exited n) w e s t = refl
unless_shown (Faulted f) w e s t = refl

pub step_shown : (w e : List ℕ) (s : State) (c : ℕ) → step (shown w e s) c ≡ shown w e (step s c)
unfolding step
step_shown w e s c =
    ap (λ t. unless_stopped s.stop (shown w e s) t) (ap (λ x. settled x (shown w e s)) (way_at_shown (found s.eip s.regions) w e s c) ∙ settled_shown (result_at (found s.eip s.regions) s c) w e s)
    ∙ unless_shown s.stop w e s (settled (result_at (found s.eip s.regions) s c) s)

pub run_shown : (n : ℕ) (w e : List ℕ) (s : State) → run n (shown w e s) [] ≡ shown w e (run n s [])
run_shown zero w e s = refl
run_shown (suc n) w e s = ap (λ t. run n t []) (step_shown w e s 0) ∙ run_shown n w e (step s 0)

pub steps_shown : (n : ℕ) (w e : List ℕ) (s : State) → steps_taken n (shown w e s) ≡ steps_taken n s
steps_shown zero w e s = refl
steps_shown (suc n) w e s = ap (λ k. while_running s.stop (1 + k) 0) (ap (λ t. steps_taken n t) (step_shown w e s 0) ∙ steps_shown n w e (step s 0))

asked_shown : (f : Found) (w e : List ℕ) (s : State) → asked_at f (shown w e s) ≡ asked_at f s
asked_shown NoCode w e s = refl
asked_shown NoInst w e s = refl
asked_shown (There i n) w e s = refl

pub reads_shown : (w e : List ℕ) (s : State) → reads_undefined (shown w e s) ≡ reads_undefined s
reads_shown w e s = ap (λ fs. some_unmarked fs s.cpu.marks) (asked_shown (found s.eip s.regions) w e s)

by_asked : (b : Bool) (w e : List ℕ) (s : State) → asks_by b (shown w e s) ≡ asks_by b s
by_asked true w e s = refl
by_asked false w e s = refl

pub ahead_shown : (w e : List ℕ) (s : State) → ahead (shown w e s) ≡ ahead s
ahead_shown w e s = ap (λ n. spare s.stop n) (by_asked (traps s) w e s)

pub undefined_shown : (n : ℕ) (w e : List ℕ) (s : State) → undefined_taken n (shown w e s) ≡ undefined_taken n s
undefined_shown zero w e s = refl
undefined_shown (suc n) w e s = ap (λ r. while_running s.stop (bit r + undefined_taken n (step (shown w e s) 0)) 0) (reads_shown w e s) ∙ ap (λ k. while_running s.stop (bit (reads_undefined s) + k) 0) (ap (λ t. undefined_taken n t) (step_shown w e s 0) ∙ undefined_shown n w e (step s 0))

by_shown : (b : Bool) (x : StepResult) (w e : List ℕ) (at : ℕ) → edge_by b (way_shown w e x) at ≡ edge_by b x at
by_shown true (On t) w e at = refl
by_shown true (Bad f) w e at = refl
by_shown false x w e at = refl

at_shown : (f : Found) (w e : List ℕ) (s : State) (c : ℕ) → edge_at f (shown w e s) c ≡ edge_at f s c
at_shown NoCode w e s c = refl
at_shown NoInst w e s c = refl
at_shown (There i n) w e s c = ap (λ x. edge_by (is_transfer i) x s.eip) (way_at_shown (found s.eip s.regions) w e s c) ∙ by_shown (is_transfer i) (result_at (found s.eip s.regions) s c) w e s.eip

pub of_shown : (x : RunState) (w e : List ℕ) (s : State) (c : ℕ) → edge_of x (shown w e s) c ≡ edge_of x s c
of_shown Running w e s c = at_shown (found s.eip s.regions) w e s c
of_shown (Exited n) w e s c = refl
of_shown (Faulted f) w e s c = refl

pub edge_shown : (n : ℕ) (w e : List ℕ) (s : State) (d : Option Edge) → edge_after n (shown w e s) d ≡ edge_after n s d
edge_shown zero w e s d = refl
edge_shown (suc n) w e s d = ap (λ k. while_running s.stop k d)
    (ap (λ t. edge_after n t (first_edge (edge_of s.stop (shown w e s) 0))) (step_shown w e s 0)
    ∙ (edge_shown n w e (step s 0) (first_edge (edge_of s.stop (shown w e s) 0)) ∙ ap (λ x. edge_after n (step s 0) (first_edge x)) (of_shown s.stop w e s 0)))

-- a state by what it has written and the rest of it
pub shown_bare : (t : State) → t ≡ shown t.out t.err (fed t.input (bare t))
shown_bare t =
    let f : List ℕ → List ℕ → State = λ x y. record t { out = x; err = y } in
    ap (λ x. f x t.err) (sym (append-nil t.out)) ∙ ap (λ y. f (t.out ++ []) y) (sym (append-nil t.err))
