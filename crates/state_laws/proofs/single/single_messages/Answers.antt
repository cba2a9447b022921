use Rattle.state_laws.proofs.Laws.{laws}
use Rattle.state_laws.proofs.Singles.{writes_nothing, writes_controller, writes_no_number, writes_high, writes_low, writes_program, writes_pressure, writes_bend, writes_key_pressure}
use Rattle.state_laws.proofs.single.single_messages.Goals as goal

pub returns-clause-nothing : goal.returns-clause-nothing
returns-clause-nothing c = writes_nothing

pub returns-clause-controller : goal.returns-clause-controller
returns-clause-controller c = writes_controller

pub returns-clause-no_number : goal.returns-clause-no_number
returns-clause-no_number c = writes_no_number

pub returns-clause-high_byte : goal.returns-clause-high_byte
returns-clause-high_byte c =
    let e = c.parameter_laws.ensures in
    writes_high (laws e.given e.others e.form e.equal)

pub returns-clause-low_byte : goal.returns-clause-low_byte
returns-clause-low_byte c =
    let e = c.parameter_laws.ensures in
    writes_low (laws e.given e.others e.form e.equal)

pub returns-clause-program : goal.returns-clause-program
returns-clause-program c = writes_program

pub returns-clause-pressure : goal.returns-clause-pressure
returns-clause-pressure c = writes_pressure

pub returns-clause-bend : goal.returns-clause-bend
returns-clause-bend c = writes_bend

pub returns-clause-key_pressure : goal.returns-clause-key_pressure
returns-clause-key_pressure c = writes_key_pressure
