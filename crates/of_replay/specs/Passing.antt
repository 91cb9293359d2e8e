-- Calls of files and sockets that found nothing this time.
use Rattle.std.specs.{Prelude.Bool, Prelude.true, Prelude.false, declared.io.ErrorKind.ErrorKind}
use Rattle.std.specs.declared.io.ErrorKind.TheVariants as kind

-- there is nothing this time, which is no fault: the call was interrupted, or would have waited for longer
abbrev pub passes : ErrorKind → Bool
passes kind.Interrupted = true
passes kind.WouldBlock = true
passes kind.TimedOut = true
passes _ = false
