-- Frames as contracts see them.
use Rattle.of_frame_words.specs.{declared.frame.Received.Received, Frames.ReceivedFrame}

abbrev pub view_received : Received → ReceivedFrame
view_received r = record { port = r.port; frame = r.frame.items }
