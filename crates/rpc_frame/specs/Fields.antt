-- The fields of a framer: the bytes from the last frame's content on.
use Rattle.std.specs.Prelude.{◌+◌, ◌-◌, ◌^◌, ◌<◌, ◌≤◌, length, take, drop}
use Rattle.rpc_frame.specs.declared.framer.Framer.TheInside.{Inside}
use Rattle.rpc_frame.specs.Framing.{Held}
use Rattle.rpc_frame.specs.HeaderMachine.{HasRead}

-- what a framer holds
abbrev pub held_by : Inside → Held
held_by f =
    record {
      taken = f.taken;
      content = take (f.start - f.content) (drop f.content f.bytes.items);
      waiting = drop f.start f.bytes.items;
    }

-- the content lies before what waits, whose header was read so far
pub record IsSound (f : Inside) : Type 0 where
  pub behind : f.content ≤ f.start
  pub within : f.start ≤ length f.bytes.items
  pub small : f.taken + (length f.bytes.items - f.start) < 2 ^ 63
  pub read : HasRead (drop f.start f.bytes.items) f.progress
