use Rattle.std.proofs.Common.{◌≡◌, ◌∷◌, ap, is_some, refl, length, rules}
use Rattle.fa_capture.specs.Message.{recorded}
use Rattle.fa_capture.specs.Records.{SpelledRecords}
use Rattle.fa_capture.proofs.PacketLemmas.{none_left, of_nothing, of_no_direction, of_no_header, of_cut, gives_none, taken_split, others_of, first_and_others}
use Rattle.fa_capture.proofs.packets.PacketsIterator.next.Goals as goal

pub returns-in_err-direction-clause-steps : goal.returns-in_err-direction-clause-steps
returns-in_err-direction-clause-steps c =
    let p = c.args.self.now in
    gives_none p c.from_residual.result (ap is_some c.from_residual.ensures) (none_left p.format p.bytes.now p.records (of_nothing p.format p.bytes.now c.in_err-direction.ensures.cases))

pub returns-in_err-direction-2-clause-steps : goal.returns-in_err-direction-2-clause-steps
returns-in_err-direction-2-clause-steps c =
    let p = c.args.self.now in
    gives_none p c.from_residual-in_err-direction-2.result (ap is_some c.from_residual-in_err-direction-2.ensures)
    (none_left p.format p.bytes.now p.records (of_no_direction p.format p.bytes.now c.in_ok-direction.behind.now _ c.in_ok-direction.ensures.cases.0 (c.in_err-direction-2.ensures.none refl)))

pub returns-in_err-time-clause-steps : goal.returns-in_err-time-clause-steps
returns-in_err-time-clause-steps c =
    let p = c.args.self.now in
    gives_none p c.from_residual-in_err-time.result (ap is_some c.from_residual-in_err-time.ensures)
    (none_left p.format p.bytes.now p.records (of_no_header p.format p.bytes.now c.in_ok-direction.behind.now _ c.in_ok-direction.ensures.cases.0 (c.in_err-time.ensures.none refl)))

pub returns-in_err-bytes-clause-steps : goal.returns-in_err-bytes-clause-steps
returns-in_err-bytes-clause-steps c =
    let p = c.args.self.now in
    gives_none p c.from_residual-in_err-bytes.result (ap is_some c.from_residual-in_err-bytes.ensures)
    (none_left p.format p.bytes.now p.records
    (of_cut p.format p.bytes.now c.in_ok-direction.behind.now c.in_ok-time.body.now _ c.in_ok-time.time c.in_ok-time.length c.in_ok-direction.ensures.cases.0 c.in_ok-time.ensures.found c.in_ok-time.ensures.time c.in_ok-time.ensures.length c.in_err-bytes.ensures.cases))

pub invariant_of-self : goal.invariant_of-self
invariant_of-self c =
    let p = c.args.self.now in
    let packet = recorded (record { direction = c.in_ok-direction-2.direction; time = c.in_ok-time.time; bytes = c.in_ok-bytes.bytes }) in
    record {
      records = others_of p.format p.bytes.now c.in_ok-bytes.left.now packet (taken_split p.format p.bytes.now c.in_ok-direction.behind.now c.in_ok-time.body.now c.in_ok-bytes.left.now packet _ c.in_ok-time.length c.in_ok-direction.ensures.cases.0
          c.in_ok-direction-2.ensures.told c.in_ok-time.ensures.found c.in_ok-time.ensures.time c.in_ok-time.ensures.length c.in_ok-bytes.ensures.cases) p.records;
    }

pub returns-clause-steps : goal.returns-clause-steps
returns-clause-steps c =
    let p = c.args.self.now in
    let packet = recorded (record { direction = c.in_ok-direction-2.direction; time = c.in_ok-time.time; bytes = c.in_ok-bytes.bytes }) in
    let first = first_and_others p.format p.bytes.now c.in_ok-bytes.left.now packet (taken_split p.format p.bytes.now c.in_ok-direction.behind.now c.in_ok-time.body.now c.in_ok-bytes.left.now packet _ c.in_ok-time.length c.in_ok-direction.ensures.cases.0
    c.in_ok-direction-2.ensures.told c.in_ok-time.ensures.found c.in_ok-time.ensures.time c.in_ok-time.ensures.length c.in_ok-bytes.ensures.cases) p.records in
    search (rules, first)

pub returns-clause-goes : goal.returns-clause-goes
returns-clause-goes c =
    let p = c.args.self.now in
    let packet = recorded (record { direction = c.in_ok-direction-2.direction; time = c.in_ok-time.time; bytes = c.in_ok-bytes.bytes }) in
    let first = first_and_others p.format p.bytes.now c.in_ok-bytes.left.now packet (taken_split p.format p.bytes.now c.in_ok-direction.behind.now c.in_ok-time.body.now c.in_ok-bytes.left.now packet _ c.in_ok-time.length c.in_ok-direction.ensures.cases.0
    c.in_ok-direction-2.ensures.told c.in_ok-time.ensures.found c.in_ok-time.ensures.time c.in_ok-time.ensures.length c.in_ok-bytes.ensures.cases) p.records in
    let shorter : (others : SpelledRecords p.format c.in_ok-bytes.left.now) → length p.records.0 ≡ length (packet ∷ others.0) = λ others. ap length (first others) in
    search rules
