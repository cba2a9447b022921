use Rattle.std.proofs.Common.{◌≡◌, ◌<◌, ◌-◌, List, length, set, Some, sym, ap, ◌∙◌, subst, arith}
use Rattle.audit_report.specs.declared.played.Played.{Played}
use Rattle.audit_report.specs.Audit.{IsIndexed, is_at, is_key, note_at}
use Rattle.audit_report.proofs.Indexed.{ends_there, indexed_marked, none_there, read_note, read_number, silent_there}
use Rattle.audit_report.proofs.audit.Audit.end_at.Goals as goal

pub returns-then-number-eq0-clause-notes : goal.returns-then-number-eq0-clause-notes
returns-then-number-eq0-clause-notes c = λ h.
    let number = read_number c.args.self.now.last.items c.args.port c.args.channel c.args.key c.number_at-number.result c.place_of.result c.place_of.ensures.place
    c.number_at-number.ensures in
    let zero = c.if-number-eq0.true in
    sym (none_there c.args.self.now.last.items c.args.self.now.notes.items c.args.port c.args.channel c.args.key c.number_at-number.result c.args.tick h number
    (λ i l e. absurd (omega (arith, zero, e))))

pub returns-then-number-len-clause-notes : goal.returns-then-number-len-clause-notes
returns-then-number-len-clause-notes c = λ h.
    let number = read_number c.args.self.now.last.items c.args.port c.args.channel c.args.key c.number_at-number.result c.place_of.result c.place_of.ensures.place
    c.number_at-number.ensures in
    let beyond = c.if-number-len.true in
    let len = c.len.ensures in
    sym (none_there c.args.self.now.last.items c.args.self.now.notes.items c.args.port c.args.channel c.args.key c.number_at-number.result c.args.tick h number
    (λ i l e. absurd (omega (arith, beyond, len, l, e))))

pub returns-else-is_at-clause-notes : goal.returns-else-is_at-clause-notes
returns-else-is_at-clause-notes c = λ h.
    let number = read_number c.args.self.now.last.items c.args.port c.args.channel c.args.key c.number_at-number.result c.place_of.result c.place_of.ensures.place
    c.number_at-number.ensures in
    let some = c.if-number-eq0.false in
    let few = c.if-number-len.false in
    let len = c.len.ensures in
    let note : c.index.result.now ≡ note_at c.args.self.now.notes.items (c.number_at-number.result - 1) =
    read_note c.args.self.now.notes.items (c.number_at-number.result - 1) c.index.result.now (omega (arith, some, few, len)) c.index.ensures in
    sym (silent_there c.args.self.now.last.items c.args.self.now.notes.items c.args.port c.args.channel c.args.key c.number_at-number.result c.args.tick h number
    (ap (is_at c.args.port (is_key c.args.channel c.args.key)) (sym note) ∙ (sym c.is_at.ensures ∙ c.if-is_at.false)))

pub returns-then-is_at-clause-notes : goal.returns-then-is_at-clause-notes
returns-then-is_at-clause-notes c = λ h.
    let number = read_number c.args.self.now.last.items c.args.port c.args.channel c.args.key c.number_at-number.result c.place_of.result c.place_of.ensures.place
    c.number_at-number.ensures in
    let some = c.if-number-eq0.false in
    let few = c.if-number-len.false in
    let len = c.len.ensures in
    let low : c.number_at-number.result - 1 < length c.args.self.now.notes.items = omega (arith, some, few, len) in
    let note : c.index.result.now ≡ note_at c.args.self.now.notes.items (c.number_at-number.result - 1) =
    read_note c.args.self.now.notes.items (c.number_at-number.result - 1) c.index.result.now low c.index.ensures in
    let lent : c.index_mut.result.now ≡ note_at c.args.self.now.notes.items (c.number_at-number.result - 1) =
    read_note c.args.self.now.notes.items (c.number_at-number.result - 1) c.index_mut.result.now low c.index_mut.ensures.value in
    ap (λ (p : Played). set c.args.self.now.notes.items (c.number_at-number.result - 1) (record p { ended = Some c.args.tick })) lent
    ∙ ends_there c.args.self.now.last.items c.args.self.now.notes.items c.args.port c.args.channel c.args.key c.number_at-number.result c.args.tick h number
    (omega (arith, some)) (omega (arith, few, len))
    (ap (is_at c.args.port (is_key c.args.channel c.args.key)) (sym note) ∙ (sym c.is_at.ensures ∙ c.if-is_at.true))

pub returns-then-is_at-clause-indexed : goal.returns-then-is_at-clause-indexed
returns-then-is_at-clause-indexed c = λ h.
    subst (λ (ps : List Played). IsIndexed c.args.self.now.last.items ps) (sym (returns-then-is_at-clause-notes c h))
    (indexed_marked c.args.self.now.last.items c.args.port (is_key c.args.channel c.args.key) c.args.tick c.args.self.now.notes.items h)
