-- When a node or an edge isn't hidden or restored.
use Rattle.std.specs.Prelude.{◌≡◌, true, false}
use Rattle.leda_base.specs.declared.name.ItemName.{ItemName}
use Rattle.graph_state.specs.State.{GraphState}
use Rattle.graph_state.specs.Refusals.{IsGone, IsThere}
use Rattle.graph_core.specs.Looks.{is_marked}
use Rattle.hide_restore.specs.declared.hide.HideRefusal.{HideRefusal}
use Rattle.hide_restore.specs.declared.hide.HideRefusal.TheVariants as hide
use Rattle.hide_restore.specs.declared.hide.RestoreRefusal.{RestoreRefusal}
use Rattle.hide_restore.specs.declared.hide.RestoreRefusal.TheVariants as restore

abbrev pub RefusesHiding : GraphState → ItemName → HideRefusal → Type 0
RefusesHiding s x (hide.Gone why) = IsGone s x why
RefusesHiding s x hide.AlreadyHidden = IsThere s x × (is_marked s x ≡ true)

abbrev pub RefusesRestoring : GraphState → ItemName → RestoreRefusal → Type 0
RefusesRestoring s x (restore.Gone why) = IsGone s x why
RefusesRestoring s x restore.NotHidden = IsThere s x × (is_marked s x ≡ false)
