use Rattle.std.proofs.Common.{◌≡◌, ◌+◌, drop}
use Rattle.dispatch.specs.Services.{first_waiting}
use Rattle.dispatch.proofs.first_waiting.Given as goal

abbrev pub invariant-loop-channel : goal.invariant-loop-channel
invariant-loop-channel g l =
    (l.number ≡ l.from + l.channel-index)
    × (first_waiting g.C.ChannelRecord.kind.waits l.from l.channels ≡ first_waiting g.C.ChannelRecord.kind.waits l.number (drop l.channel-index l.channels))
