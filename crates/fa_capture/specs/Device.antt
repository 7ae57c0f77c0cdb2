-- What a clause reads of a device.
use Rattle.std.specs.Prelude.{Bool}
use Rattle.fa_capture.specs.declared.device.Device.{Device}

-- the reader or the writer that it stands over
abbrev pub device_inner : {T : Type 0} → Device T → T
device_inner d = d.inner

-- whether a pull has failed
abbrev pub device_failed : {T : Type 0} → Device T → Bool
device_failed d = d.failed

-- whether a pull was interrupted
abbrev pub device_interrupted : {T : Type 0} → Device T → Bool
device_interrupted d = d.interrupted

-- whether a put has failed
abbrev pub device_broken : {T : Type 0} → Device T → Bool
device_broken d = d.broken
