-- A source and two sinks, as they are seen before and after calls: the input of a guest and its two outputs.
use Rattle.std.specs.Prelude.{◌≡◌, ℕ, ◌≤◌, List, [], ◌++◌, Some, IfSome, option_map, IsTrue}
use Rattle.br_outside.specs.Outside.{StreamView, Rose}

-- a source and two sinks
pub record Streams : Type 0 where
  pub input : StreamView
  -- descriptors 1 and 2
  pub out : StreamView
  pub err : StreamView

-- no call on the object failed: the count of its faults is as it was
pub record Steady (old new : StreamView) : Type 0 where
  pub calm : new.calm ≡ old.calm
  pub same : new.faults ≡ old.faults

-- a call on the object failed, which none does on a calm one
pub record Fails (old new : StreamView) : Type 0 where
  pub calm : new.calm ≡ old.calm
  pub later : old.faults ≤ new.faults
  pub rose : Rose old.faults new.faults
  pub uncalm : IsTrue old.calm → ⊥

-- these bytes are what a source has left, where it tells
abbrev pub Tells : List ℕ → StreamView → Type 0
Tells left v = IfSome v.bytes (λ told. told ≡ left)

-- a source that told goes on, and has these bytes left
abbrev pub HasLeft : List ℕ → StreamView → StreamView → Type 0
HasLeft rest old new = IfSome old.bytes (λ left. new.bytes ≡ Some rest)

-- a sink was given these bytes behind the others, where it tells
abbrev pub WasGiven : List ℕ → StreamView → StreamView → Type 0
WasGiven more old new = new.bytes ≡ option_map (λ written. written ++ more) old.bytes

-- a source was asked, did not fail, and has these bytes left
pub record Leaves (rest : List ℕ) (old new : StreamView) : Type 0 where
  pub bytes : HasLeft rest old new
  pub steady : Steady old new

-- a sink was given these bytes, and did not fail
pub record Gains (more : List ℕ) (old new : StreamView) : Type 0 where
  pub bytes : WasGiven more old new
  pub steady : Steady old new
  -- for no bytes the sink is not called
  pub idle : more ≡ [] → new ≡ old
