use Rattle.std.proofs.Common.{inl, inr}
use Rattle.fa_bodies.proofs.successes.success.Goals as goal

pub returns-in-Create-clause-none : goal.returns-in-Create-clause-none
returns-in-Create-clause-none c = rw c.in-Create.is c.created.ensures.none

pub returns-in-Write-clause-none : goal.returns-in-Write-clause-none
returns-in-Write-clause-none c = rw c.in-Write.is c.written.ensures.none

pub returns-in-Init-clause-none : goal.returns-in-Init-clause-none
returns-in-Init-clause-none c = rw c.in-Init.is c.negotiated.ensures.none

pub returns-in-Open-clause-none : goal.returns-in-Open-clause-none
returns-in-Open-clause-none c = elim c.in-Open.is [ inl x ↦ rw x.1 c.opened.ensures.none | inr x ↦ rw x.1 c.opened.ensures.none ]

pub returns-in-Getattr-clause-none : goal.returns-in-Getattr-clause-none
returns-in-Getattr-clause-none c = elim c.in-Getattr.is [ inl x ↦ rw x.1 c.attributes.ensures.none | inr x ↦ rw x.1 c.attributes.ensures.none ]

pub returns-in-Lookup-clause-none : goal.returns-in-Lookup-clause-none
returns-in-Lookup-clause-none c =
    let none = c.entry.ensures.none in
    elim c.in-Lookup.is [
      | inl lookup ↦ rw lookup.1 none
      | inr others ↦ elim others [
        | inl symlink ↦ rw symlink.2 none
        | inr others ↦ elim others [
          | inl mknod ↦ rw mknod.4 none
          | inr others ↦ elim others [ inl mkdir ↦ rw mkdir.3 none | inr link ↦ rw link.2 none ]
        ]
      ]
    ]

pub returns-in-Readdir-clause-none : goal.returns-in-Readdir-clause-none
returns-in-Readdir-clause-none c = rw c.in-Readdir.is c.listed.ensures.none

pub returns-in-Readdirplus-clause-none : goal.returns-in-Readdirplus-clause-none
returns-in-Readdirplus-clause-none c = rw c.in-Readdirplus.is c.listed-in-Readdirplus.ensures.none
