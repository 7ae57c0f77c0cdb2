-- What the pages of a file show.
use Rattle.fa_store.specs.declared.pages.PageList.{PageList}
use Rattle.fa_store.specs.declared.pages.PageList.TheVariants.{One, Many}
use Rattle.fa_store.specs.parts.PageParts.{PagesShown, only_page}

-- what each of them stores
abbrev pub pages_shown : PageList → PagesShown
pages_shown (One page) = only_page page
pages_shown (Many pages) = pages.value
