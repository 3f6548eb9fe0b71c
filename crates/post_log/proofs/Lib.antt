-- SPDX-License-Identifier: MIT OR Apache-2.0
mod Bits
mod Upto
mod Walk
mod Telling
mod Whole
mod Checking
mod Entering
mod Reading
