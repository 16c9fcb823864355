-- The statement on previews, and previews by computing.
use mathlib.Core.Path.{refl}
use Rattle.pitch_search.specs.Opens.{search_opens}
use Rattle.pitch_search.specs.Previews.{preview_of, SearchAfterPreview, PreviewsShown}

pub search_after_preview : SearchAfterPreview
unfolding SearchAfterPreview preview_of
search_after_preview s exc target hs first second n = (refl, refl)

pub previews_shown : PreviewsShown
unfolding PreviewsShown preview_of search_opens
previews_shown = (refl, refl, refl, refl, refl, refl)
