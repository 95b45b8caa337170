-- Rows of moves, the stack and transfers.
use Rattle.std.proofs.Common.{◌≡◌, ℕ, ◌+◌, ◌-◌, ◌%◌, ◌^◌, ◌<◌, true, List, ◌∷◌, sym, ap, subst, ◌∙◌, refl, arith, get_or, set}
use Rattle.std.proofs.lemmas.Nat.{mod_below}
use Rattle.std.proofs.Math.Nat.{mod-add-mod}
use Rattle.br_word.specs.declared.types.Width.{Width}
use Rattle.br_word.specs.declared.types.Width.TheVariants.{B32}
use Rattle.br_word.specs.Words.{bits_of}
use Rattle.br_word.specs.Memory.{Region, load, store}
use Rattle.br_word.specs.State.{Processor}
use Rattle.ia_inst.specs.declared.inst.Inst.TheVariants.{Mov, Lea, Xchg, Push, Pop, Leave, Cld, Std, Nop, Jmp, JmpRm, Call, CallRm, Ret}
use Rattle.ia_inst.specs.declared.inst.Addr.{Addr}
use Rattle.ia_inst.specs.declared.inst.Rm.{Rm}
use Rattle.ia_inst.specs.declared.inst.Src.{Src}
use Rattle.ia_inst.specs.Canonical.{rm_valid, address_valid}
use Rattle.ia_inst.specs.Act.{Act, Next, NextEip, Past, To, perform}
use Rattle.ia_inst.specs.Act as act
use Rattle.ia_inst.specs.Meaning.{wrap, reg_value, address_of, to_rm, pushed, no_changes, meaning}
use Rattle.lift_alu.specs.Steps.{Gpr, Expr, Lit, Step, Name, named, with_reg, with_mem, Run, worth}
use Rattle.lift_alu.specs.Operands.{place, write_operand, address_expr}
use Rattle.lift_alu.specs.Table.{a', b', r', pushes}
use Rattle.lift_alu.proofs.OperandLaws.{AreSmall, set_are_small, mod_fits, masked_worth, read_reg_worth, reg_fits, with_gpr, load_fits, address_worth}
use Rattle.lift_alu.proofs.Frames.{Ends, IsSource, RowMeans, lies_at, was_allowed, reads, reads_source, name_as, put_as, fetch_as, write_as, write_reg_as, writes, done}

wrap_small : (x : ℕ) → wrap x < 2 ^ 32
wrap_small x = mod_below x (2 ^ 32) (omega arith)

-- a target is counted from the next address
pub target : (at n rel : ℕ) → wrap (wrap (at + n) + rel) ≡ wrap (at + n + rel)
target at n rel = mod-add-mod (at + n) (2 ^ 32) rel

module _ (u v : Processor) (ms : List Region) (to : NextEip) where
  -- an operand is written whose address is made only now
  pub writes_new : {P : Run → Type 0} {rest : List Step} {s : Run} (w : Width) (rm : Rm) (e : Expr) (x : ℕ) (go : List ℕ → Act) →
      AreSmall s.regs.gpr → rm_valid rm ≡ true → x < 2 ^ bits_of w → ((p : ℕ) → worth e (named 0 p s) ≡ x) →
      perform (to_rm w rm x s.regs.gpr go) 0 u s.mem ≡ Next v ms to →
      ((p : ℕ) (g : List ℕ) (m : List Region) → perform (go g) 0 u m ≡ Next v ms to → Ends P rest (with_mem m (with_gpr g (named 0 p s)))) →
      Ends P (Name 0 (place rm) ∷ write_operand w 0 rm e ∷ rest) s
  writes_new {s = s} w rm e x go f i l q t go_on =
      let p : ℕ = worth (place rm) s in
      name_as p refl (writes u v ms to 0 w rm e x go f (lies_at rm s f i) l (q p) t (λ g m _ r. go_on p g m r))

  -- a value is pushed
  pub pushes_as : {P : Run → Type 0} {rest : List Step} {s : Run} (e : Expr) (x : ℕ) (go : List ℕ → Act) →
      ((p : ℕ) → worth e (named 4 p s) ≡ x) →
      perform (pushed x s.regs.gpr go) 0 u s.mem ≡ Next v ms to →
      ((p : ℕ) (m : List Region) → perform (go (set s.regs.gpr 4 p)) 0 u m ≡ Next v ms to → Ends P rest (with_reg (Gpr 4) p (with_mem m (named 4 p s)))) →
      Ends P (pushes e rest) s
  pushes_as {s = s} e x go q t go_on =
      let p : ℕ = wrap (get_or s.regs.gpr 4 0 + 2 ^ 32 - 4) in
      let h = was_allowed p (store p 4 x s.mem) (λ m. perform (go (set s.regs.gpr 4 p)) 0 u m) v ms to t in
      name_as p refl (write_as p x h.it refl (q p) h.is (put_as p refl (go_on p h.it h.rest)))

pub mov_row : (w : Width) (dst : Rm) (x : Src) → rm_valid dst ≡ true → IsSource w x → RowMeans (Mov w dst x)
unfolding meaning
mov_row w dst x i j at n u v p m ms to g k q =
    reads_source u v ms to 1 3 w x _ g.small g.bytes j q (λ p1 b bl qb.
    writes_new u v ms to w dst b' b _ g.small i bl (λ p0. refl) qb (λ p0 g1 m1 qc.
    done u v ms to _ qc (record { gpr = refl; cf = g.cf; pf = g.pf; zf = g.zf; sf = g.sf; of = g.of; df = g.df; mem = refl; exit = refl })))

pub lea_row : (w : Width) (dst : ℕ) (a : Addr) → address_valid a ≡ true → RowMeans (Lea w dst a)
unfolding meaning
lea_row w dst a i at n u v p m ms to g k q =
    let x : ℕ = address_of a u.regs in
    let y : ℕ = x % 2 ^ bits_of w in
    let e = address_worth a _ g.small i in
    name_as y (masked_worth w (address_expr a) _ (subst (λ t. t < 2 ^ 32) (sym e) (wrap_small _)) ∙ ap (λ t. t % 2 ^ bits_of w) e)
    (write_reg_as w dst r' y g.small (mod_fits w x) refl
    (done u v ms to _ q (record { gpr = refl; cf = g.cf; pf = g.pf; zf = g.zf; sf = g.sf; of = g.of; df = g.df; mem = refl; exit = refl })))

pub xchg_row : (w : Width) (dst : Rm) (reg : ℕ) → rm_valid dst ≡ true → RowMeans (Xchg w dst reg)
unfolding meaning
xchg_row w dst reg i at n u v p m ms to g k q =
    reads u v ms to 0 2 w dst _ g.small g.bytes i q (λ p0 a lies al qa.
    let b : ℕ = reg_value w reg u.regs in
    name_as b (read_reg_worth w reg _)
    (writes u v ms to 0 w dst b' b _ g.small lies (reg_fits w reg u.regs g.small) refl qa (λ g1 m1 f1 qb.
    write_reg_as w reg a' a f1 al refl
    (done u v ms to _ qb (record { gpr = refl; cf = g.cf; pf = g.pf; zf = g.zf; sf = g.sf; of = g.of; df = g.df; mem = refl; exit = refl })))))

pub push_row : (x : Src) → IsSource B32 x → RowMeans (Push x)
unfolding meaning
push_row x j at n u v p m ms to g k q =
    reads_source u v ms to 1 3 B32 x _ g.small g.bytes j q (λ p1 b bl qb.
    pushes_as u v ms to b' b (λ (regs : List ℕ). act.Ends regs u.df no_changes (Past n)) (λ p0. refl) qb (λ p0 m1 qc.
    done u v ms to _ qc (record { gpr = refl; cf = g.cf; pf = g.pf; zf = g.zf; sf = g.sf; of = g.of; df = g.df; mem = refl; exit = refl })))

pub pop_row : (dst : Rm) → rm_valid dst ≡ true → RowMeans (Pop dst)
unfolding meaning
pop_row dst i at n u v p m ms to g k q =
    let esp : ℕ = get_or u.regs 4 0 in
    let h = was_allowed esp (load esp 4 m) _ v ms to q in
    fetch_as esp h.it refl h.is
    (put_as (wrap (esp + 4)) refl
    (writes_new u v ms to B32 dst a' h.it _ (set_are_small u.regs 4 (wrap (esp + 4)) g.small (wrap_small (esp + 4))) i (load_fits B32 esp h.it m g.bytes h.is) (λ p0. refl) h.rest (λ p0 g1 m1 qc.
    done u v ms to _ qc (record { gpr = refl; cf = g.cf; pf = g.pf; zf = g.zf; sf = g.sf; of = g.of; df = g.df; mem = refl; exit = refl }))))

pub leave_row : RowMeans Leave
unfolding meaning
leave_row at n u v p m ms to g k q =
    let ebp : ℕ = get_or u.regs 5 0 in
    let h = was_allowed ebp (load ebp 4 m) _ v ms to q in
    fetch_as ebp h.it refl h.is
    (done u v ms to _ h.rest (record { gpr = refl; cf = g.cf; pf = g.pf; zf = g.zf; sf = g.sf; of = g.of; df = g.df; mem = refl; exit = refl }))

pub cld_row : RowMeans Cld
unfolding meaning
cld_row at n u v p m ms to g k q = done u v ms to _ q (record { gpr = refl; cf = g.cf; pf = g.pf; zf = g.zf; sf = g.sf; of = g.of; df = refl; mem = refl; exit = refl })

pub std_row : RowMeans Std
unfolding meaning
std_row at n u v p m ms to g k q = done u v ms to _ q (record { gpr = refl; cf = g.cf; pf = g.pf; zf = g.zf; sf = g.sf; of = g.of; df = refl; mem = refl; exit = refl })

pub nop_row : RowMeans Nop
unfolding meaning
nop_row at n u v p m ms to g k q = done u v ms to _ q (record { gpr = refl; cf = g.cf; pf = g.pf; zf = g.zf; sf = g.sf; of = g.of; df = g.df; mem = refl; exit = refl })

-- ---- transfers
pub jmp_row : (rel : ℕ) → RowMeans (Jmp rel)
unfolding meaning
jmp_row rel at n u v p m ms to g k q = done u v ms to _ q (record { gpr = refl; cf = g.cf; pf = g.pf; zf = g.zf; sf = g.sf; of = g.of; df = g.df; mem = refl; exit = target at n rel })

pub jmp_rm_row : (x : Rm) → rm_valid x ≡ true → RowMeans (JmpRm x)
unfolding meaning
jmp_rm_row x i at n u v p m ms to g k q =
    reads u v ms to 0 9 B32 x _ g.small g.bytes i q (λ p0 t lies tl qt.
    done u v ms to _ qt (record { gpr = refl; cf = g.cf; pf = g.pf; zf = g.zf; sf = g.sf; of = g.of; df = g.df; mem = refl; exit = refl }))

pub call_row : (rel : ℕ) → RowMeans (Call rel)
unfolding meaning
call_row rel at n u v p m ms to g k q =
    pushes_as u v ms to (Lit (wrap (at + n))) (wrap (at + n)) (λ (regs : List ℕ). act.Ends regs u.df no_changes (To (wrap (at + n + rel)))) (λ p0. refl) q (λ p0 m1 qc.
    done u v ms to _ qc (record { gpr = refl; cf = g.cf; pf = g.pf; zf = g.zf; sf = g.sf; of = g.of; df = g.df; mem = refl; exit = target at n rel }))

pub call_rm_row : (x : Rm) → rm_valid x ≡ true → RowMeans (CallRm x)
unfolding meaning
call_rm_row x i at n u v p m ms to g k q =
    reads u v ms to 0 9 B32 x _ g.small g.bytes i q (λ p0 t lies tl qt.
    pushes_as u v ms to (Lit (wrap (at + n))) (wrap (at + n)) (λ (regs : List ℕ). act.Ends regs u.df no_changes (To t)) (λ p0. refl) qt (λ p0 m1 qc.
    done u v ms to _ qc (record { gpr = refl; cf = g.cf; pf = g.pf; zf = g.zf; sf = g.sf; of = g.of; df = g.df; mem = refl; exit = refl })))

pub ret_row : (pop : ℕ) → RowMeans (Ret pop)
unfolding meaning
ret_row pop at n u v p m ms to g k q =
    let esp : ℕ = get_or u.regs 4 0 in
    let h = was_allowed esp (load esp 4 m) _ v ms to q in
    let z : esp + (4 + pop) ≡ esp + 4 + pop = omega arith in
    fetch_as esp h.it refl h.is
    (put_as (wrap (esp + 4 + pop)) (ap wrap z)
    (done u v ms to _ h.rest (record { gpr = refl; cf = g.cf; pf = g.pf; zf = g.zf; sf = g.sf; of = g.of; df = g.df; mem = refl; exit = refl })))
