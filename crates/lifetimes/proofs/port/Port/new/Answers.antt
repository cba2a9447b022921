use Rattle.std.proofs.Common.{◌∷◌, [], List, refl}
use Rattle.std.specs.List.{AllByRecursion}
use Rattle.lifetimes.specs.declared.notes.Notes.{Notes}
use Rattle.lifetimes.proofs.NewPort.{IsQuiet, new_stands, quiet_placed}
use Rattle.lifetimes.proofs.port.Port.new.Goals as goal

pub returns : goal.returns
returns c =
    let parts : List Notes =
    c.new-2.result ∷ c.new-3.result ∷ c.new-4.result ∷ c.new-5.result ∷ c.new-6.result ∷ c.new-7.result
    ∷ c.new-8.result ∷ c.new-9.result ∷ c.new-10.result ∷ c.new-11.result ∷ c.new-12.result ∷ c.new-13.result
    ∷ c.new-14.result ∷ c.new-15.result ∷ c.new-16.result ∷ c.new-17.result ∷ [] in
    let quiet : AllByRecursion IsQuiet parts = (
      (c.new-2.ensures.sounding, c.new-2.ensures.rests),
      (
        (c.new-3.ensures.sounding, c.new-3.ensures.rests),
        (
          (c.new-4.ensures.sounding, c.new-4.ensures.rests),
          (
            (c.new-5.ensures.sounding, c.new-5.ensures.rests),
            (
              (c.new-6.ensures.sounding, c.new-6.ensures.rests),
              (
                (c.new-7.ensures.sounding, c.new-7.ensures.rests),
                (
                  (c.new-8.ensures.sounding, c.new-8.ensures.rests),
                  (
                    (c.new-9.ensures.sounding, c.new-9.ensures.rests),
                    (
                      (c.new-10.ensures.sounding, c.new-10.ensures.rests),
                      (
                        (c.new-11.ensures.sounding, c.new-11.ensures.rests),
                        (
                          (c.new-12.ensures.sounding, c.new-12.ensures.rests),
                          (
                            (c.new-13.ensures.sounding, c.new-13.ensures.rests),
                            (
                              (c.new-14.ensures.sounding, c.new-14.ensures.rests),
                              (
                                (c.new-15.ensures.sounding, c.new-15.ensures.rests),
                                (
                                  (c.new-16.ensures.sounding, c.new-16.ensures.rests),
                                  ((c.new-17.ensures.sounding, c.new-17.ensures.rests), tt),
                                ),
                              ),
                            ),
                          ),
                        ),
                      ),
                    ),
                  ),
                ),
              ),
            ),
          ),
        ),
      ),
    ) in
    record {
      stands = λ o table. new_stands o table _ refl refl quiet c.new.ensures.stands;
      kept = λ tail some. quiet_placed parts quiet;
      begun = c.new.ensures.begun;
    }
