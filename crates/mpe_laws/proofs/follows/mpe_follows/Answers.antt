use Rattle.mpe_laws.proofs.Happenings.{event_kept}
use Rattle.mpe_laws.proofs.follows.mpe_follows.Goals as goal

pub returns : goal.returns
returns c = record {
  kept = λ port o table zones k m x e row sets. event_kept (record {
    settle = c.music_laws.ensures.settled;
    fade = c.music_laws.ensures.fade;
    zones = c.zone_entries_set_zones.ensures;
  }) port o table zones row sets k m x e;
}
